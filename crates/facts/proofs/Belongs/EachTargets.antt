-- A loop over the targets of a board.
use Rattle.std.proofs.Common.{◌≡◌, ◌<◌, ◌≤◌, ◌+◌, ◌↔◌, ◌∙◌, inl, inr, ℕ, zero, suc, Bool, true}
use Rattle.std.proofs.Common.{false, IsTrue, List, [], ◌∷◌, length, slice_get, Option, Some, None}
use Rattle.std.proofs.Common.{slice_index_or, sym, ap, subst, arith}
use Rattle.std.proofs.lemmas.Option.{slice_get-get_or}
use Rattle.std.proofs.lemmas.Bool.{cases_lt}
use Rattle.std.proofs.lemmas.Bool.Decides.{nat_tests}
use Rattle.board.specs.Boards.{Target, Board}
use Rattle.targets.specs.States.{IsTargetAt}
use Rattle.facts.specs.well_formed.Shapes.{EachTarget, EachBefore}

pub before_none : (b : Board) (Holds : ℕ → Target → Type 0) → EachBefore 0 b Holds
unfolding EachBefore
before_none b Holds = λ i t lt at. absurd (omega (arith, lt))

some_same : (r s : Target) → Some r ≡ Some s → r ≡ s
some_same r s e = ap (λ (o : Option Target). the o) e
  where
    the : Option Target → Target
    the None = r
    the (Some x) = x

pub before_more : (b : Board) (Holds : ℕ → Target → Type 0) (n : ℕ) (r : Target)
    → EachBefore n b Holds → Some r ≡ slice_get b.targets n → Holds n r
    → EachBefore (n + 1) b Holds
unfolding EachBefore
before_more b Holds n r before here holds = λ d s lt at.
    elim (cases_lt d n) [
      | inl earlier ↦ before d s earlier at
      | inr last ↦
          let e : n ≡ d = omega (arith, lt, last) in
          subst (λ i. Holds i s) e
          (subst (Holds n) (some_same r s (here ∙ ap (slice_get b.targets) e ∙ at)) holds)
    ]

none_some : (r : Target) → None ≡ Some r → ⊥
none_some r e = absurd (grind (arith, nat_tests, ap (λ (o : Option Target). is_there o) e))
  where
    is_there : Option Target → Bool
    is_there None = false
    is_there (Some x) = true

pub before_past : (b : Board) (Holds : ℕ → Target → Type 0) (n : ℕ) → EachBefore n b Holds
    → None ≡ slice_get b.targets n → EachBefore (n + 1) b Holds
unfolding EachBefore
before_past b Holds n before here = λ d s lt at.
    elim (cases_lt d n) [
      | inl earlier ↦ before d s earlier at
      | inr last ↦
          let e : d ≡ n = omega (arith, lt, last) in
          absurd (none_some s (here ∙ ap (slice_get b.targets) (sym e) ∙ at))
    ]

inside : (ts : List Target) (d : ℕ) (r : Target) → slice_get ts d ≡ Some r → d < length ts
inside [] d r at = absurd (none_some r at)
inside (x ∷ xs) zero r at = omega arith
inside (x ∷ xs) (suc d) r at = let h = inside xs d r at in omega (arith, h)

pub before_all : (b : Board) (Holds : ℕ → Target → Type 0) (n : ℕ) → EachBefore n b Holds
    → length b.targets ≤ n → EachTarget b Holds
unfolding EachBefore EachTarget
before_all b Holds n before all = λ d r at.
    let h = inside b.targets d r at in
    before d r (omega (arith, h, all)) at

pub false_true : false ≡ true → ⊥
false_true e = grind (arith, nat_tests)

pub not_met : (b : Bool) (Holds : Type 0) → IsTrue b ↔ Holds → b ≡ false → Holds → ⊥
not_met b Holds iff fails holds = false_true (sym fails ∙ iff.1 holds)

-- the target that a loop is at
pub here : (b : Board) (ts : List Target) (i : ℕ) (t : Target) → ts ≡ b.targets → i < length ts
    → t ≡ slice_index_or ts i t → Some t ≡ slice_get b.targets i
here b ts i t same lt is =
    subst (λ xs. Some t ≡ slice_get xs i) same
    (ap (λ x. Some x) is ∙ sym (slice_get-get_or ts i t lt))

-- what a loop knows, target by target
pub before_at : (b : Board) (Holds : ℕ → Target → Type 0) (n : ℕ) → EachBefore n b Holds → (i : ℕ)
    → i < n → (t : Target) → IsTargetAt b i t → Holds i t
unfolding EachBefore
before_at b Holds n before i lt t at' = before i t lt at'

pub each_at : (b : Board) (Holds : ℕ → Target → Type 0) → EachTarget b Holds → (i : ℕ)
    (t : Target) → IsTargetAt b i t → Holds i t
unfolding EachTarget
each_at b Holds each i t at' = each i t at'
