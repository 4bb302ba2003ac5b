-- The parts of a row one after another, in the order in which they are judged.
use Rattle.std.proofs.Common.{◌≡◌, ◌<◌, inl, inr, ℕ, zero, suc, refl, sym, subst, arith}
use Rattle.std.proofs.lemmas.Bool.{cases_lt}
use Rattle.board.specs.Boards.{Board}
use Rattle.facts.specs.declared.well_formed.misfit.Misfit.{Misfit}
use Rattle.facts.specs.declared.well_formed.misfit.Misfit.TheVariants as part
use Rattle.facts.specs.domain.Rows.{Row}
use Rattle.facts.specs.domain.Uncovered.{IsBefore}
use Rattle.facts.specs.well_formed.Misfits.{PartFits, IsFirstMisfit, misfit_order}

-- what is said of this target, rail, register or counter
abbrev pub of_kind : ℕ → ℕ → Misfit
of_kind zero n = part.Sets
of_kind (suc zero) n = part.Pages n
of_kind (suc (suc zero)) n = part.Protects n
of_kind (suc (suc (suc zero))) n = part.Good n
of_kind (suc (suc (suc (suc zero)))) n = part.Register n
of_kind (suc (suc (suc (suc (suc zero))))) n = part.Source n
of_kind (suc (suc (suc (suc (suc (suc zero)))))) n = part.Counter n
of_kind (suc (suc (suc (suc (suc (suc (suc zero))))))) n = part.Lost
of_kind (suc (suc (suc (suc (suc (suc (suc (suc zero)))))))) n = part.Contentions
of_kind (suc (suc (suc (suc (suc (suc (suc (suc (suc zero))))))))) n = part.Turns n
of_kind (suc (suc (suc (suc (suc (suc (suc (suc (suc (suc k)))))))))) n = part.Ticks

kind_is : (e : Misfit) → of_kind (misfit_order e).0 (misfit_order e).1 ≡ e
kind_is part.Sets = refl
kind_is (part.Pages i) = refl
kind_is (part.Protects i) = refl
kind_is (part.Good d) = refl
kind_is (part.Register r) = refl
kind_is (part.Source r) = refl
kind_is (part.Counter c) = refl
kind_is part.Lost = refl
kind_is part.Contentions = refl
kind_is (part.Turns c) = refl
kind_is part.Ticks = refl

few_kinds : (e : Misfit) → (misfit_order e).0 < 11
few_kinds part.Sets = omega arith
few_kinds (part.Pages i) = omega arith
few_kinds (part.Protects i) = omega arith
few_kinds (part.Good d) = omega arith
few_kinds (part.Register r) = omega arith
few_kinds (part.Source r) = omega arith
few_kinds (part.Counter c) = omega arith
few_kinds part.Lost = omega arith
few_kinds part.Contentions = omega arith
few_kinds (part.Turns c) = omega arith
few_kinds part.Ticks = omega arith

-- the parts of a kind fit, and those of all kinds before one
abbrev pub AllOf : Board → Row → ℕ → Type 0
AllOf b row k = (n : ℕ) → PartFits b row (of_kind k n)

abbrev pub AllBelow : Board → Row → ℕ → Type 0
AllBelow b row k = (e : Misfit) → (misfit_order e).0 < k → PartFits b row e

of_same : (b : Board) (row : Row) (k : ℕ) (e : Misfit) → (misfit_order e).0 ≡ k
    → PartFits b row (of_kind k (misfit_order e).1) → PartFits b row e
of_same b row k e same h =
    subst (PartFits b row) (kind_is e)
    (subst (λ m. PartFits b row (of_kind m (misfit_order e).1)) (sym same) h)

pub none_below : (b : Board) (row : Row) → AllBelow b row 0
none_below b row = λ e lt. absurd (omega (arith, lt))

pub more : (b : Board) (row : Row) (k : ℕ) → AllBelow b row k → AllOf b row k
    → AllBelow b row (suc k)
more b row k below all = λ e lt. elim (cases_lt (misfit_order e).0 k) [
  | inl less ↦ below e less
  | inr le ↦ of_same b row k e (omega (arith, lt, le)) (all (misfit_order e).1)
]

pub all_fit : (b : Board) (row : Row) → AllBelow b row 11 → (e : Misfit) → PartFits b row e
all_fit b row below = λ e. below e (few_kinds e)

pub first_of : (b : Board) (row : Row) (k n : ℕ) → misfit_order (of_kind k n) ≡ (k, n)
    → AllBelow b row k
    → (PartFits b row (of_kind k n) → ⊥) × ((m : ℕ) → m < n → PartFits b row (of_kind k m))
    → IsFirstMisfit b row (of_kind k n)
first_of b row k n at' below h = record {
  fails = h.0;
  before = λ e before. go e (subst (λ x. IsBefore (misfit_order e) x) at' before);
}
  where
    go : (e : Misfit) → IsBefore (misfit_order e) (k, n) → PartFits b row e
    go e (inl lt) = below e lt
    go e (inr same) = of_same b row k e same.0 (h.1 (misfit_order e).1 same.1)
