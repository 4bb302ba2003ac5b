-- The slots that go out, from the first one that is cut.
use Rattle.std.proofs.Common.{◌≡◌, ◌≤◌, ◌+◌, ◌-◌, inl, inr, ℕ, suc, Bool, true, false, not, Option}
use Rattle.std.proofs.Common.{Some, None, List, [], ◌∷◌, take, cond, refl, sym, ap, ◌∙◌, arith}
use Rattle.std.specs.List.{position_from, take_while}
use Rattle.std.proofs.lemmas.Bool.{cases_Bool}
use Rattle.std.proofs.lemmas.List.Sums.{take_while-cons}
use Rattle.bit_bus.specs.declared.plan.Slot.{Slot}
use Rattle.bit_bus.specs.Planned.{planned, slots_in}
use Rattle.bit_bus.specs.Levels.{is_cut}

abbrev pub out : List (Slot × ℕ) → List Slot
out plan = slots_in (take_while (λ (s : Slot × ℕ). not (is_cut s.1)) plan)

abbrev pub cut_from : ℕ → List (Slot × ℕ) → Option ℕ
cut_from i plan = position_from (λ (s : Slot × ℕ). is_cut s.1) i plan

-- all slots, or those before the one that is cut, where slots are numbered from i on
abbrev pub IsOut : ℕ → List Slot → List Slot → Option ℕ → Type 0
IsOut i slots sent None = sent ≡ slots
IsOut i slots sent (Some c) = (i ≤ c) × (sent ≡ take (c - i) slots)

one_more : (i : ℕ) (s : Slot) (slots sent : List Slot) (cut : Option ℕ)
    → IsOut (i + 1) slots sent cut → IsOut i (s ∷ slots) (s ∷ sent) cut
one_more i s slots sent None o = ap (λ l. s ∷ l) o
one_more i s slots sent (Some c) o =
    let le : i + 1 ≤ c = o.0 in
    let n : c - i ≡ suc (c - (i + 1)) = omega arith in
    (omega arith, ap (λ l. s ∷ l) o.1 ∙ ap (λ k. take k (s ∷ slots)) (sym n))

abbrev is_whole : Slot × ℕ → Bool
is_whole s = not (is_cut s.1)

out_as : (s : Slot) (h : ℕ) (plan : List (Slot × ℕ)) (cut : Bool) → is_cut h ≡ cut
    → out ((s, h) ∷ plan) ≡ slots_in (cond (not cut) ((s, h) ∷ take_while is_whole plan) [])
out_as s h plan cut e =
    ap slots_in (take_while-cons is_whole (s, h) plan)
    ∙ ap (λ b. slots_in (cond (not b) ((s, h) ∷ take_while is_whole plan) [])) e

along : (i : ℕ) (slots sent sent' : List Slot) (cut cut' : Option ℕ) → sent ≡ sent' → cut ≡ cut'
    → IsOut i slots sent' cut' → IsOut i slots sent cut
along i slots sent sent' cut cut' e f o = rw (e, f) o

one_slot : (i : ℕ) (s : Slot) (h : ℕ) (slots : List Slot) (plan : List (Slot × ℕ))
    → IsOut (i + 1) slots (out plan) (cut_from (i + 1) plan)
    → IsOut i (s ∷ slots) (out ((s, h) ∷ plan)) (cut_from i ((s, h) ∷ plan))
one_slot i s h slots plan o = elim (cases_Bool (is_cut h)) [
  | inl t ↦
      let z : i - i ≡ 0 = omega arith in
      along i (s ∷ slots) _ [] _ (Some i) (out_as s h plan true t)
      (ap (λ b. cond b (Some i) (cut_from (i + 1) plan)) t) (omega arith, rw z refl)
  | inr f ↦
      along i (s ∷ slots) _ (s ∷ out plan) _ (cut_from (i + 1) plan) (out_as s h plan false f)
      (ap (λ b. cond b (Some i) (cut_from (i + 1) plan)) f)
      (one_more i s slots (out plan) (cut_from (i + 1) plan) o)
]

pub is_out : (i : ℕ) (slots : List Slot) (holds : List ℕ)
    → IsOut i slots (out (planned slots holds)) (cut_from i (planned slots holds))
is_out i [] holds = refl
is_out i (s ∷ slots) [] = one_slot i s 0 slots (planned slots []) (is_out (i + 1) slots [])
is_out i (s ∷ slots) (h ∷ holds) =
    one_slot i s h slots (planned slots holds) (is_out (i + 1) slots holds)
