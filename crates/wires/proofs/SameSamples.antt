-- Samples are equal exactly where their levels are.
use Rattle.std.proofs.Common.{◌≡◌, ◌≢◌, Bool, true, false, ◌&&◌, refl, sym, ◌∙◌}
use Rattle.std.proofs.Math.Bool.{beq}
use Rattle.std.proofs.lemmas.Bool.{and_parts}
use Rattle.wires.specs.declared.lines.Sample.{Sample}

-- what the derived test of two samples computes
abbrev pub same_levels : Sample → Sample → Bool
same_levels s t = beq s.scl t.scl && (beq s.sda t.sda && beq s.alert t.alert)

beq-refl : (b : Bool) → beq b b ≡ true
beq-refl true = refl
beq-refl false = refl

same_levels-refl : (s : Sample) → same_levels s s ≡ true
same_levels-refl s = rw (beq-refl s.scl, beq-refl s.sda, beq-refl s.alert) refl

pub other_sample : (s t : Sample) → same_levels s t ≡ false → s ≢ t
other_sample s t test same =
    let e : false ≡ true = sym test ∙ rw same (same_levels-refl t) in cc

beq-true : (x y : Bool) → beq x y ≡ true → x ≡ y
beq-true true true e = refl
beq-true true false e = cc
beq-true false true e = cc
beq-true false false e = refl

same_parts : (a b c x y z : Bool) → a ≡ x → b ≡ y → c ≡ z
    → ◌≡◌ {A = Sample} (record { scl = a; sda = b; alert = c })
    (record { scl = x; sda = y; alert = z })
same_parts a b c x y z e f g = rw (e, f, g) refl

pub same_sample : (s t : Sample) → same_levels s t ≡ true → s ≡ t
same_sample s t test =
    let p = and_parts (beq s.scl t.scl) (beq s.sda t.sda && beq s.alert t.alert) test in
    let q = and_parts (beq s.sda t.sda) (beq s.alert t.alert) p.1 in
    same_parts s.scl s.sda s.alert t.scl t.sda t.alert (beq-true s.scl t.scl p.0)
    (beq-true s.sda t.sda q.0) (beq-true s.alert t.alert q.1)
