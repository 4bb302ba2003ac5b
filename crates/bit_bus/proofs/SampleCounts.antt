-- Each slot takes at most three samples and its hold.
use Rattle.std.proofs.Common.{◌≡◌, ℕ, suc, ◌+◌, ◌-◌, ◌*◌, ◌<◌, ◌≤◌, inl, inr, Bool, true, false}
use Rattle.std.proofs.Common.{List, [], ◌∷◌, ◌++◌, length, ap, ◌∙◌, arith}
use Rattle.std.specs.List.{AllByRecursion}
use Rattle.std.proofs.lemmas.Bool.{cases_Bool, ltb-true}
use Rattle.std.proofs.lemmas.List.{length-append, length-replicate}
use Rattle.std.proofs.lemmas.List.Elements.{recursion_from_All}
use Rattle.wires.specs.declared.lines.Sample.{Sample}
use Rattle.bit_bus.specs.declared.plan.Slot.{Slot}
use Rattle.bit_bus.specs.declared.plan.Slot.TheVariants.{Bit, Again, End}
use Rattle.bit_bus.specs.Levels.{level, low_run, is_cut, data_of, whole_levels, cut_levels}
use Rattle.bit_bus.specs.Levels.{slot_levels, levels}
use Rattle.bit_bus.specs.Planned.{IsPlan}
use Rattle.bit_bus.specs.SampleCounts.{LevelsAreFew, most_driven}

length-low_run : (a x : Bool) (n : ℕ) → length (low_run a x n) ≡ n
unfolding low_run
length-low_run a x n = length-replicate n (level a false x)

length-two : (a x : Bool) (n : ℕ) (s t : Sample) → length (low_run a x n ++ s ∷ t ∷ []) ≡ n + 2
length-two a x n s t =
    length-append (low_run a x n) (s ∷ t ∷ []) ∙ ap (λ (k : ℕ). k + 2) (length-low_run a x n)

whole_few : (a : Bool) (s : Slot) (hold : ℕ) → length (whole_levels a s hold) ≤ 3 + hold
whole_few a (Bit x) hold =
    let e = length-append (low_run a x (hold + 1)) (level a true x ∷ []) in
    let l = length-low_run a x (hold + 1) in
    omega arith
whole_few a Again hold =
    let e = length-two a true (hold + 1) (level a true true) (level a true false) in
    omega arith
whole_few a End hold =
    let e = length-two a false (hold + 1) (level a true false) (level a true true) in
    omega arith

length-three : (a x y : Bool) (n k : ℕ) (s t : Sample)
    → length ((low_run a x n ++ low_run a y k) ++ s ∷ t ∷ []) ≡ n + k + 2
length-three a x y n k s t =
    length-append (low_run a x n ++ low_run a y k) (s ∷ t ∷ [])
    ∙ ap (λ (j : ℕ). j + 2) (length-append (low_run a x n) (low_run a y k)
    ∙ ap (λ (j : ℕ). j + length (low_run a y k)) (length-low_run a x n)
    ∙ ap (λ (j : ℕ). n + j) (length-low_run a y k))

cut_count : (hold count : ℕ) → 5000 < hold + 1 → count ≡ 5000 + (hold + 1 - 5000) + 2
    → count ≤ 3 + hold
cut_count hold count lt e = omega arith

cut_few : (a : Bool) (s : Slot) (hold : ℕ) → is_cut hold ≡ true
    → length (cut_levels a s hold) ≤ 3 + hold
cut_few a s hold t =
    cut_count hold (length (cut_levels a s hold)) (ltb-true 5000 (hold + 1) t) (length-three a
    (data_of s) false 5000 (hold + 1 - 5000) (level a true false) (level a true true))

few_more : (n hold longest : ℕ) → hold ≤ longest
    → (3 + hold) + n * (3 + longest) ≤ suc n * (3 + longest)
few_more n hold longest le =
    let e : suc n * (3 + longest) ≡ (3 + longest) + n * (3 + longest) = omega arith in
    omega (arith, e)

slots_few : (a : Bool) (longest : ℕ) (plan : List (Slot × ℕ))
    → AllByRecursion (λ (s : Slot × ℕ). s.1 ≤ longest) plan
    → length (slot_levels a plan) ≤ length plan * (3 + longest)
slots_few a longest [] h = omega arith
slots_few a longest (s ∷ later) h =
    let m = few_more (length later) s.1 longest h.0 in
    let r = slots_few a longest later h.1 in
    elim (cases_Bool (is_cut s.1)) [
      | inl t ↦ let c = cut_few a s.0 s.1 t in rw t (omega arith)
      | inr f ↦
          let w = whole_few a s.0 s.1 in
          let e = length-append (whole_levels a s.0 s.1) (slot_levels a later) in
          rw f (omega arith)
    ]

pub levels_are_few : LevelsAreFew
levels_are_few alert longest plan h =
    let s =
    slots_few alert longest plan (recursion_from_All (λ (s : Slot × ℕ). s.1 ≤ longest) plan h) in
    omega arith

pub driven_few : (alert : Bool) (plan : List (Slot × ℕ)) → IsPlan plan
    → length (levels alert plan) ≤ most_driven
driven_few alert plan valid =
    omega (arith, levels_are_few alert 6999 plan valid.holds, valid.few)

-- so are those up to a slot, behind others
pub begun_few : (alert : Bool) (plan : List (Slot × ℕ)) (before samples later : List Sample)
    → IsPlan plan → samples ++ later ≡ before ++ slot_levels alert plan
    → length samples < length before + most_driven
begun_few alert plan before samples later valid parts =
    let all = ap length parts in
    let few : suc (length (slot_levels alert plan)) ≤ most_driven = driven_few alert plan valid in
    omega (
      arith,
      all,
      length-append samples later,
      length-append before (slot_levels alert plan),
      few,
    )
