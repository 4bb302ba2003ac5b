-- Bounds and single numbers of sets that lie in others.
use Rattle.std.proofs.Common.{◌≡◌, ℕ, zero, suc, ◌+◌, ◌≤◌, ◌⊎◌, refl, ap, sym, ◌∙◌, inl, inr}
use Rattle.std.proofs.Common.{arith, true, false}
use Rattle.std.proofs.lemmas.Bool.{eq-eqb, cases_Bool, cond-true, cond-false, false≢true}
use Rattle.std.specs.Prelude.{Option, Some, None, ◌==◌, option_and_then}
use Rattle.board.specs.Boards.{Board}
use Rattle.facts.specs.declared.domain.source.Source.{Source}
use Rattle.facts.specs.declared.domain.span.Span.{Span}
use Rattle.facts.specs.domain.Sets.{Set}
use Rattle.facts.specs.domain.Rows.{SetCovers, SpanCovers, SourceCovers}
use Rattle.facts.specs.transfer.Edges.{first_in, last_in, bounds, single, has_any, rail_on}
use Rattle.facts.specs.transfer.Edges.{status_of}
use Rattle.facts.proofs.Shared.Bounds.{bounds_hold, single_is, first_has}

first_small : (s : Set) (n low : ℕ) → first_in s low n ≤ low + n
first_small s zero low = omega arith
first_small s (suc n) low = go (first_small s n (low + 1)) (cases_Bool (s low))
  where
    go : first_in s (low + 1) n ≤ low + 1 + n → (s low ≡ true) ⊎ (s low ≡ false)
        → first_in s low (suc n) ≤ low + suc n
    go rest (inl e) = let k : first_in s low (suc n) ≡ low =
        cond-true (s low) low (first_in s (low + 1) n) e in omega (arith, k)
    go rest (inr e) = let k : first_in s low (suc n) ≡ first_in s (low + 1) n =
        cond-false (s low) low (first_in s (low + 1) n) e in omega (arith, k, rest)

last_small : (s : Set) (n : ℕ) → last_in s n ≤ n
last_small s zero = omega arith
last_small s (suc n) = go (last_small s n) (cases_Bool (s (suc n)))
  where
    go : last_in s n ≤ n → (s (suc n) ≡ true) ⊎ (s (suc n) ≡ false) → last_in s (suc n) ≤ suc n
    go rest (inl e) = let k : last_in s (suc n) ≡ suc n =
        cond-true (s (suc n)) (suc n) (last_in s n) e in omega (arith, k)
    go rest (inr e) = let k : last_in s (suc n) ≡ last_in s n =
        cond-false (s (suc n)) (suc n) (last_in s n) e in omega (arith, k, rest)

last_has : (s : Set) (n v : ℕ) → v ≤ n → s v ≡ true → s (last_in s n) ≡ true
last_has s zero v below h = let same : v ≡ 0 = omega arith in ap s (sym same) ∙ h
last_has s (suc n) v below h = go (λ before. last_has s n v before h) (cases_Bool (s (suc n)))
  where
    go : (v ≤ n → s (last_in s n) ≡ true) → (s (suc n) ≡ true) ⊎ (s (suc n) ≡ false)
        → s (last_in s (suc n)) ≡ true
    go earlier (inl e) = ap s (cond-true (s (suc n)) (suc n) (last_in s n) e) ∙ e
    go earlier (inr e) = ap s (cond-false (s (suc n)) (suc n) (last_in s n) e)
        ∙ earlier (before (λ same. false≢true (sym e ∙ (ap s (sym same) ∙ h))))
      where
        before : (v ≡ suc n → ⊥) → v ≤ n
        before apart = omega (arith, apart)

-- the ends of a set with a number are in it
pub ends_in : (s : Set) (v : ℕ) → v ≤ 255 → s v ≡ true
    → (s (Span.lo (bounds s)) ≡ true) × (s (Span.hi (bounds s)) ≡ true)
    × (Span.lo (bounds s) ≤ 255) × (Span.hi (bounds s) ≤ 255)
unfolding bounds
ends_in s v small h = (
  first_has s 255 0 v (omega arith) (omega (arith, small)) h,
  last_has s 255
      v small h,
  omega (arith, first_small s 255 0),
  last_small s 255,
)

pub bounds_cover : (s u : Set) (v : ℕ) → v ≤ 255 → u v ≡ true → SetCovers s u
    → SpanCovers (bounds s) (bounds u)
bounds_cover s u v small h c =
    let e = ends_in u v small h in (
      (bounds_hold s (Span.lo (bounds u)) e.2 (c (Span.lo (bounds u)) e.0)).0,
      (bounds_hold s (Span.hi (bounds u)) e.3 (c (Span.hi (bounds u)) e.1)).1,
    )

-- where the first set has one number alone, a set in it with a number has the same alone
pub single_same : (s u : Set) (p v : ℕ) → v ≤ 255 → u v ≡ true → SetCovers s u
    → single s ≡ Some p → single u ≡ Some p
single_same s u p v small h c one =
    let e = ends_in u v small h in
    let low : Span.lo (bounds u) ≡ p = single_is s p (Span.lo (bounds u)) one e.2
    (c (Span.lo (bounds u)) e.0) in
    let high : Span.hi (bounds u) ≡ p = single_is s p (Span.hi (bounds u)) one e.3
    (c (Span.hi (bounds u)) e.1) in
    cond-true (Span.lo (bounds u) == Span.hi (bounds u)) (Some (Span.lo (bounds u))) None
    (eq-eqb (Span.lo (bounds u)) (Span.hi (bounds u)) (low ∙ sym high))
    ∙ ap (λ (x : ℕ). Some x) low

-- the source of a status word, by the only page
abbrev pub status_on : Board → ℕ → Option ℕ → Source
status_on b i page = status_of (option_and_then (rail_on b i) page)

pub status_covers : (b : Board) (s u : Set) (i v : ℕ) → v ≤ 255 → u v ≡ true → SetCovers s u
    → SourceCovers (status_on b i (single s)) (status_on b i (single u))
status_covers b s u i v small h c = go (single s) (λ p e. single_same s u p v small h c e)
  where
    go : (o : Option ℕ) → ((p : ℕ) → o ≡ Some p → single u ≡ Some p)
        → SourceCovers (status_on b i o) (status_on b i (single u))
    go None k = inl refl
    go (Some p) k = inr (ap (status_on b i) (sym (k p refl)))

pub has_any_covers : (s u : Set) → SetCovers s u → has_any u ≡ true → has_any s ≡ true
unfolding bounds
has_any_covers s u c h = first_has s 255 0 (first_in u 0 255) (omega arith) (first_small u 255 0)
    (c (first_in u 0 255) h)
