-- A plan of marks: what goes out before its first cut, and that it can be driven.
use Rattle.std.proofs.Common.{◌≡◌, ◌≢◌, ℕ, suc, ◌+◌, ◌-◌, ◌≤◌, inl, inr, if◌then◌else◌, Option}
use Rattle.std.proofs.Common.{Some, None, List, [], ◌∷◌, ◌++◌, length, take, refl, ap, ◌∙◌, arith}
use Rattle.std.proofs.lemmas.Bool.{cases_Bool}
use Rattle.bit_bus.specs.declared.plan.Slot.{Slot}
use Rattle.bit_bus.specs.declared.plan.Slot.TheVariants.{Bit, Again, End}
use Rattle.bit_bus.specs.Planned.{planned, EndsOnce}
use Rattle.bit_bus.specs.Levels.{is_cut}
use Rattle.smbus.proofs.MarksOut.{marks_out, cut_from, NoEnd}

-- what goes out is what stands before the first cut, where slots are numbered from i on
pub record Cuts (i : ℕ) (marks : List Slot) (plan : List (Slot × ℕ)) : Type 0 where
  pub all : cut_from i plan ≡ None → marks_out plan ≡ marks
  pub above : (c : ℕ) → cut_from i plan ≡ Some c → i ≤ c
  pub below : (c : ℕ) → cut_from i plan ≡ Some c → c ≤ i + length marks
  pub some : (c : ℕ) → cut_from i plan ≡ Some c → marks_out plan ≡ take (c - i) marks

none_some : {X : Type 0} (x : X) → let o : Option X = None in o ≡ Some x → ⊥
none_some x e = cc

some_none : {X : Type 0} (x : X) → let o : Option X = Some x in o ≡ None → ⊥
some_none x e = cc

some_same : {X : Type 0} (x y : X) → let o : Option X = Some x in o ≡ Some y → x ≡ y
some_same x y e = cc

cuts_end : (i hold : ℕ) → Cuts i [] ((End, hold) ∷ [])
cuts_end i hold = elim (cases_Bool (is_cut hold)) [
  | inl t ↦ record {
    all = λ e. refl;
    above = λ c e.
        let s = some_same i c (rw t at e) in
        omega arith;
    below = λ c e.
        let s = some_same i c (rw t at e) in
        omega arith;
    some = λ c e.
        let s = some_same i c (rw t at e) in
        let z : c - i ≡ 0 = omega arith in
        rw z refl;
  }
  | inr f ↦ record {
    all = λ e. refl;
    above = λ c e. absurd (none_some c (rw f at e));
    below = λ c e. absurd (none_some c (rw f at e));
    some = λ c e. absurd (none_some c (rw f at e));
  }
]

-- what goes out where this slot isn't cut
abbrev pub Passes : Slot → Type 0
Passes s = (hold : ℕ) (later : List (Slot × ℕ))
    → marks_out ((s, hold) ∷ later) ≡ (if is_cut hold then [] else s ∷ marks_out later)

passes : (s : Slot) → s ≢ End → Passes s
passes (Bit x) n = λ hold later. refl
passes Again n = λ hold later. refl
passes End n = λ hold later. absurd (n refl)

cuts_more : (i hold : ℕ) (s : Slot) (marks : List Slot) (later : List (Slot × ℕ)) → s ≢ End
    → Cuts (i + 1) marks later → Cuts i (s ∷ marks) ((s, hold) ∷ later)
cuts_more i hold s marks later n o =
    let p = passes s n hold later in
    elim (cases_Bool (is_cut hold)) [
      | inl t ↦ record {
        all = λ e. absurd (some_none i (rw t at e));
        above = λ c e. let s = some_same i c (rw t at e) in omega arith;
        below = λ c e. let s = some_same i c (rw t at e) in omega arith;
        some = λ c e.
            let s = some_same i c (rw t at e) in
            let z : c - i ≡ 0 = omega arith in
            p ∙ rw (t, z) refl;
      }
      | inr f ↦ record {
        all = λ e. p ∙ rw f (ap (λ (l : List Slot). s ∷ l) (o.all (rw f at e)));
        above = λ c e. let a = o.above c (rw f at e) in omega arith;
        below = λ c e. let a = o.below c (rw f at e) in omega arith;
        some = λ c e.
            let a = o.above c (rw f at e) in
            let z : c - i ≡ suc (c - (i + 1)) = omega arith in
            p ∙ rw (f, z) (ap (λ (l : List Slot). s ∷ l) (o.some c (rw f at e)));
      }
    ]

pub cuts_of : (i : ℕ) (marks : List Slot) (holds : List ℕ) → NoEnd marks
    → Cuts i marks (planned (marks ++ End ∷ []) holds)
cuts_of i [] [] n = cuts_end i 0
cuts_of i [] (h ∷ holds) n = cuts_end i h
cuts_of i (s ∷ marks) [] n =
    cuts_more i 0 s marks (planned (marks ++ End ∷ []) []) n.0 (cuts_of (i + 1) marks [] n.1)
cuts_of i (s ∷ marks) (h ∷ holds) n =
    cuts_more i h s marks (planned (marks ++ End ∷ []) holds) n.0 (cuts_of (i + 1) marks holds n.1)

-- a plan of marks is one that can be driven

ends_more : (s : Slot) (slots : List Slot) → s ≢ End → EndsOnce slots → EndsOnce (s ∷ slots)
ends_more s [] ne once = absurd once
ends_more s (t ∷ slots) ne once = (ne, once)

pub marks_end_once : (marks : List Slot) → NoEnd marks → EndsOnce (marks ++ End ∷ [])
marks_end_once [] n = refl
marks_end_once (s ∷ marks) n = ends_more s (marks ++ End ∷ []) n.0 (marks_end_once marks n.1)
