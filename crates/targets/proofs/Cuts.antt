-- The first slot that is cut, from the holds alone: a missing hold cuts none.
use Rattle.std.proofs.Common.{◌≡◌, ◌<◌, ◌^◌, ◌-◌, min, ◌≤◌, ◌+◌, ◌⊎◌, inl, inr, ℕ, zero, suc, None}
use Rattle.std.proofs.Common.{List, [], ◌∷◌, length, take, cond, Some, refl, ap, arith}
use Rattle.std.specs.List.{position_from}
use Rattle.bit_bus.specs.declared.plan.Slot.{Slot}
use Rattle.bit_bus.specs.Planned.{planned}
use Rattle.bit_bus.specs.Levels.{is_cut}

none_cut : (i : ℕ) (slots : List Slot)
    → None ≡ position_from (λ (s : Slot × ℕ). is_cut s.1) i (planned slots [])
none_cut i [] = refl
none_cut i (s ∷ slots) = none_cut (i + 1) slots

-- so many holds are looked at as there are both slots and holds
pub cut_by_holds : (n i : ℕ) (slots : List Slot) (holds : List ℕ) → n ≤ length slots
    → n ≤ length holds → (n ≡ length slots) ⊎ (n ≡ length holds)
    → position_from is_cut i (take n holds)
    ≡ position_from (λ (s : Slot × ℕ). is_cut s.1) i (planned slots holds)
cut_by_holds zero i [] holds ls lh e = refl
cut_by_holds zero i (s ∷ slots) [] ls lh e = none_cut i (s ∷ slots)
cut_by_holds zero i (s ∷ slots) (h ∷ holds) ls lh (inl e) = absurd (omega arith)
cut_by_holds zero i (s ∷ slots) (h ∷ holds) ls lh (inr e) = absurd (omega arith)
cut_by_holds (suc n) i [] holds ls lh e = absurd (omega arith)
cut_by_holds (suc n) i (s ∷ slots) [] ls lh e = absurd (omega arith)
cut_by_holds (suc n) i (s ∷ slots) (h ∷ holds) ls lh e =
    ap (cond (is_cut h) (Some i))
    (cut_by_holds n (i + 1) slots holds (omega arith) (omega arith) (less e))
  where
    less : (suc n ≡ suc (length slots)) ⊎ (suc n ≡ suc (length holds))
        → (n ≡ length slots) ⊎ (n ≡ length holds)
    less (inl q) = inl (omega arith)
    less (inr q) = inr (omega arith)

pub cut_in_plan : (slots : List Slot) (holds : List ℕ) → length holds < 2 ^ 64
    → position_from is_cut 0 (take (min (min (length slots) (2 ^ 64 - 1)) (length holds)) holds)
    ≡ position_from (λ (s : Slot × ℕ). is_cut s.1) 0 (planned slots holds)
cut_in_plan slots holds lt =
    cut_by_holds (min (min (length slots) (2 ^ 64 - 1)) (length holds)) 0 slots holds (omega arith)
    (omega arith) (which (length slots) (length holds) lt)
  where
    which : (a b : ℕ) → b < 2 ^ 64
        → (min (min a (2 ^ 64 - 1)) b ≡ a) ⊎ (min (min a (2 ^ 64 - 1)) b ≡ b)
    which a b lt = grind arith
