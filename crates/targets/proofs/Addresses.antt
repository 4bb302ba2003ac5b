-- The target of an address is the only one.
use Rattle.std.proofs.Common.{◌≡◌, ◌≢◌, ◌≤◌, ◌<◌, ◌+◌, ◌-◌, ◌==◌, ◌⊎◌, inl, inr, ℕ, zero, suc, Bool}
use Rattle.std.proofs.Common.{true, false, Option, Some, None, List, [], ◌∷◌, length, slice_get}
use Rattle.std.proofs.Common.{slice_index_or, cond, refl, sym, ap, ◌∙◌, arith}
use Rattle.std.specs.List.{position_from}
use Rattle.std.proofs.lemmas.Bool.{cases_lt, eqb-true, eq-eqb}
use Rattle.std.proofs.lemmas.Iterator.Adapters.{position_from-zero}
use Rattle.board.specs.Boards.{Target, Board, place_of_address}
use Rattle.board.specs.Valid.{IsBoard}
use Rattle.targets.specs.PlaceLaws.{TargetsAreFound}
use Rattle.targets.specs.States.{IsTargetAt}

abbrev has_address : ℕ → Target → Bool
has_address a t = t.address == a

record Found (a i j : ℕ) (ts : List Target) : Type 0 where
  pub from : i ≤ j
  pub target : Target
  pub at : slice_get ts (j - i) ≡ Some target
  pub same : target.address ≡ a

found_later : (a i j : ℕ) (t : Target) (ts : List Target) → Found a (i + 1) j ts
    → Found a i j (t ∷ ts)
found_later a i j t ts f =
    let le : i + 1 ≤ j = f.from in
    let n : j - i ≡ suc (j - (i + 1)) = omega arith in
    record {
      from = omega arith;
      target = f.target;
      at = ap (slice_get (t ∷ ts)) n ∙ f.at;
      same = f.same;
    }

found_here : (a i j : ℕ) (t : Target) (ts : List Target) → has_address a t ≡ true → i ≡ j
    → Found a i j (t ∷ ts)
found_here a i j t ts h same =
    let n : j - i ≡ 0 = omega arith in
    record {
      from = omega arith;
      target = t;
      at = ap (slice_get (t ∷ ts)) n;
      same = eqb-true t.address a h;
    }

-- the first choice, or the other
some_of : (b : Bool) (i j : ℕ) (o : Option ℕ) → cond b (Some i) o ≡ Some j
    → ((b ≡ true) × (i ≡ j)) ⊎ (o ≡ Some j)
some_of true i j o e = inl (refl, (cc))
some_of false i j o e = inr e

none_of : (b : Bool) (i : ℕ) (o : Option ℕ) → cond b (Some i) o ≡ None → (b ≡ false) × (o ≡ None)
none_of true i o e = cc
none_of false i o e = (refl, e)

found : (a i j : ℕ) (ts : List Target) → position_from (has_address a) i ts ≡ Some j
    → Found a i j ts
found a i j [] e = cc
found a i j (t ∷ ts) e =
    elim (some_of (has_address a t) i j (position_from (has_address a) (i + 1) ts) e) [
      | inl h ↦ found_here a i j t ts h.0 h.1
      | inr h ↦ found_later a i j t ts (found a (i + 1) j ts h)
    ]

not_found : (a i : ℕ) (ts : List Target) → position_from (has_address a) i ts ≡ None
    → (k : ℕ) (t : Target) → slice_get ts k ≡ Some t → t.address ≢ a
not_found a i [] e k t at same = cc
not_found a i (u ∷ ts) e zero t at same =
    let n = none_of (has_address a u) i (position_from (has_address a) (i + 1) ts) e in
    let h : u ≡ t = cc in
    let is : has_address a u ≡ true =
    eq-eqb u.address a (ap (λ (t : Target). t.address) h ∙ same) in
    let bad : true ≡ false = sym is ∙ n.0 in
    cc
not_found a i (u ∷ ts) e (suc k) t at same =
    not_found a (i + 1) ts
    (none_of (has_address a u) i (position_from (has_address a) (i + 1) ts) e).1 k t at same

as_position_from : (a : ℕ) (ts : List Target)
    → place_of_address a ts ≡ position_from (has_address a) 0 ts
as_position_from a ts = position_from-zero (has_address a) ts

pub place_found : (a j : ℕ) (ts : List Target) → place_of_address a ts ≡ Some j
    → (t : Target) × (slice_get ts j ≡ Some t) × (t.address ≡ a)
place_found a j ts e =
    let f = found a 0 j ts (sym (as_position_from a ts) ∙ e) in
    let n : j - 0 ≡ j = omega arith in
    (f.target, ap (slice_get ts) (sym n) ∙ f.at, f.same)

pub place_not_found : (a : ℕ) (ts : List Target) → place_of_address a ts ≡ None
    → (k : ℕ) (t : Target) → slice_get ts k ≡ Some t → t.address ≢ a
place_not_found a ts e = not_found a 0 ts (sym (as_position_from a ts) ∙ e)

-- what stands at an index
at_index : (ts : List Target) (i : ℕ) (t d : Target) → slice_get ts i ≡ Some t
    → (i < length ts) × (slice_index_or ts i d ≡ t)
at_index [] i t d e = cc
at_index (u ∷ ts) zero t d e = (omega arith, (cc))
at_index (u ∷ ts) (suc i) t d e = let r = at_index ts i t d e in (omega arith, r.1)

apart : (b : Board) → IsBoard b → (i j : ℕ) (t u : Target) → IsTargetAt b i t → IsTargetAt b j u
    → t.address ≡ u.address → i < j → ⊥
apart b is i j t u ti uj same lt =
    let x = at_index b.targets i t t ti in
    let y = at_index b.targets j u t uj in
    is.addresses i j t lt y.0
    (ap (λ (t : Target). t.address) x.1 ∙ (same ∙ ap (λ (t : Target). t.address) (sym y.1)))

-- two targets of one address are one
pub only_one : (b : Board) → IsBoard b → (i j : ℕ) (t u : Target) → IsTargetAt b i t
    → IsTargetAt b j u → t.address ≡ u.address → i ≡ j
only_one b is i j t u ti uj same =
    elim (cases_lt i j) [
      | inl lt ↦ absurd (apart b is i j t u ti uj same lt)
      | inr le ↦ elim (cases_lt j i) [
        | inl lt ↦ absurd (apart b is j i u t uj ti (sym same) lt)
        | inr ge ↦ omega arith
      ]
    ]

pub targets_are_found : TargetsAreFound
targets_are_found b i t is at = by (place_of_address t.address b.targets) refl
  where
    by : (place : Option ℕ) → place_of_address t.address b.targets ≡ place → place ≡ Some i
    by None e = absurd (place_not_found t.address b.targets e i t at refl)
    by (Some j) e =
        let f = place_found t.address j b.targets e in
        ap (λ (n : ℕ). Some n) (only_one b is j i f.0 t f.1 at f.2)
