-- How an order grows, and what no order can place.
use Rattle.std.proofs.Common.{◌≡◌, ◌<◌, ◌≤◌, ◌+◌, ◌-◌, ◌++◌, ◌∙◌, ℕ, List, [], ◌∷◌, Bool, true}
use Rattle.std.proofs.Common.{false}
use Rattle.std.proofs.Common.{rules, IsTrue, length, slice_index, take, sym, ap, subst, refl}
use Rattle.std.proofs.Common.{arith, length-append, not, ◌&&◌, ◌==◌, nat_lt, nat_eq, Option}
use Rattle.std.proofs.Common.{Some, None, IfSome, is_some, below_more, inl, inr, suc, zero}
use Rattle.std.specs.List.{list_any, IsDistinct}
use Rattle.std.proofs.lemmas.Bool.{or_cases, and_parts, ltb-true, lt-ltb, eqb-true}
use Rattle.std.proofs.lemmas.Cmp.{nat_eq_equiv}
use Rattle.std.proofs.lemmas.List.{take-append-le, take_all, get_or_append_left}
use Rattle.std.proofs.lemmas.List.Folds.{list_any-append}
use Rattle.std.proofs.lemmas.Map.Keys.{IsDistinct-push}
use Rattle.std.proofs.lemmas.Map.Steps.{length-le_from_distinct_below}
use Rattle.std.proofs.Math.Seq.{get_or-append_seam}
use Rattle.drafts.specs.Orders.{is_placed, IsNext, EachIsNext, WaitsWithin}
use Rattle.drafts.specs.Orders.{IsNeverReady, IsFirstNeverReady}
use Rattle.drafts.specs.Missing.{EachIsHeldUp, IsFirstUnplaced}

-- the value of an option that has one, and what is known of it
pub some_fact : {P : ℕ → Type 0} (o : Option ℕ) → is_some o ≡ true → IfSome o P → (x : ℕ) × P x
some_fact (Some x) there known = (x, known)
some_fact None there known = absurd cc

-- a test is not both
pub both : {b t : Bool} → b ≡ true → b ≡ t → t ≡ false → ⊥
both holds same fails = cc

-- numbers that the test finds equal are
pub same : (a b : ℕ) → (a == b) ≡ true → a ≡ b
same a b e = eqb-true a b e

-- a rail that is placed stands somewhere
pub place_in : (xs : List ℕ) (d : ℕ) → IsTrue (is_placed xs d)
    → (j : ℕ) × (j < length xs) × (slice_index xs j ≡ d)
place_in [] d placed = absurd cc
place_in (x ∷ xs) d placed = elim (or_cases (x == d) (is_placed xs d) placed) [
  | inl here ↦ (0, omega arith, same x d here)
  | inr later ↦ let at = place_in xs d later in (suc at.0, omega (arith, at.1), at.2)
]

-- the same among the first so many
pub place_before : (xs : List ℕ) (n d : ℕ) → IsTrue (is_placed (take n xs) d)
    → (j : ℕ) × (j < n) × (slice_index xs j ≡ d)
place_before xs zero d placed = absurd cc
place_before [] (suc n) d placed = absurd cc
place_before (x ∷ xs) (suc n) d placed =
    elim (or_cases (x == d) (is_placed (take n xs) d) placed) [
      | inl here ↦ (0, omega arith, same x d here)
      | inr later ↦
          let at = place_before xs n d later in (suc at.0, omega (arith, at.1), at.2)
    ]

-- none of a set of which each waits for another stands in an order
pub none_stands : (waits : ℕ → ℕ → Bool) (count : ℕ) (set : ℕ → Bool) (order : List ℕ)
    → WaitsWithin waits count set → EachIsNext waits count order
    → (n i : ℕ) → i < n → i < length order → IsTrue (set (slice_index order i)) → ⊥
none_stands waits count set order within each zero i below there inside = omega arith
none_stands waits count set order within each (suc n) i below there inside =
    let next = each i there in
    let other = within.waiting (slice_index order i) inside in
    let known = within.known other.0 other.1.0 in
    let at = place_before order i other.0 (next.ready other.0 known other.1.1) in
    none_stands waits count set order within each n at.0 (omega (arith, at.1, below))
    (omega (arith, at.1, there)) (subst (λ r. IsTrue (set r)) (sym at.2) other.1.0)

-- what is never ready isn't placed
pub never_placed : (waits : ℕ → ℕ → Bool) (count : ℕ) (order : List ℕ) (d : ℕ)
    → EachIsNext waits count order → IsNeverReady waits count d → IsTrue (is_placed order d) → ⊥
never_placed waits count order d each never placed =
    let at = place_in order d placed in
    none_stands waits count never.0 order never.1.1 each (suc at.0) at.0 (omega arith) at.1
    (subst (λ r. IsTrue (never.0 r)) (sym at.2) never.1.0)

-- the rails that aren't placed
abbrev pub rest_of : ℕ → List ℕ → ℕ → Bool
rest_of count placed d = nat_lt d count && not (is_placed placed d)

pub in_rest : (count : ℕ) (placed : List ℕ) (d : ℕ) → d < count → is_placed placed d ≡ false
    → IsTrue (rest_of count placed d)
in_rest count placed d known unplaced = rw (lt-ltb d count known, unplaced) refl

pub unplaced_in : (b : Bool) → IsTrue (not b) → b ≡ false
unplaced_in true e = absurd cc
unplaced_in false e = refl

-- where each rail that isn't placed waits for one that isn't, they wait for one another
pub rest_waits : (waits : ℕ → ℕ → Bool) (count : ℕ) (placed : List ℕ)
    → EachIsHeldUp waits count placed count → WaitsWithin waits count (rest_of count placed)
rest_waits waits count placed missing = record {
  known = λ d inside. ltb-true d count (and_parts (nat_lt d count) _ inside).0;
  waiting = λ d inside.
      let parts = and_parts (nat_lt d count) (not (is_placed placed d)) inside in
      let m =
      missing d (ltb-true d count parts.0) (unplaced_in (is_placed placed d) parts.1) in
      (m.0, (in_rest count placed m.0 m.1.known m.1.unplaced, m.1.awaited));
}

-- then the first of them is the first that no order can place
pub first_never_ready : (waits : ℕ → ℕ → Bool) (count : ℕ) (placed : List ℕ) (rail : ℕ)
    → EachIsNext waits count placed → EachIsHeldUp waits count placed count
    → IsFirstUnplaced count placed rail → IsFirstNeverReady waits count rail
first_never_ready waits count placed rail each missing first =
    let never : IsNeverReady waits count rail = (
      rest_of count placed,
      (in_rest count placed rail first.known first.unplaced, rest_waits waits count placed missing),
    ) in
    record {
      never_ready = never;
      first = λ d before also. never_placed waits count placed d each also (first.first d before);
      no_order = λ order is.
          never_placed waits count order rail is.each_is_next never (is.all rail first.known);
    }

-- an order goes on with the next rail
pub each_with_next : (waits : ℕ → ℕ → Bool) (count : ℕ) (placed : List ℕ) (rail : ℕ)
    → EachIsNext waits count placed → IsNext waits count placed rail
    → EachIsNext waits count (placed ++ rail ∷ [])
each_with_next waits count placed rail each next =
    let P : ℕ → Type 0 =
    λ i. IsNext waits count (take i (placed ++ rail ∷ [])) (slice_index (placed ++ rail ∷ []) i) in
    let earlier : (i : ℕ) → i < length placed → P i =
    λ i below.
    let le : i ≤ length placed = omega arith in
    rw (
      take-append-le i placed (rail ∷ []) le,
      get_or_append_left placed (rail ∷ []) 0 i below,
    ) (each i below) in
    let last : P (length placed) =
    rw (
      take-append-le (length placed) placed (rail ∷ []) (omega arith),
      take_all (length placed) placed (omega arith),
      get_or-append_seam placed rail [] 0,
    ) next in
    λ i below. below_more P (length placed) earlier last i
    (omega (arith, length-append placed (rail ∷ []), below))

-- rails that stand apart
pub record AreRails (count : ℕ) (placed : List ℕ) : Type 0 where
  pub distinct : IsDistinct nat_eq placed
  pub known : (d : ℕ) → list_any (nat_eq d) placed ≡ true → d < count

-- there are at most so many
pub few : (count : ℕ) (placed : List ℕ) → AreRails count placed → length placed ≤ count
few count placed rails = length-le_from_distinct_below placed count rails.distinct rails.known

-- a test from either side
pub flipped : (a b : ℕ) → (a == b) ≡ nat_eq b a
flipped a b = nat_eq_equiv.symm a b

pub any_flipped : (xs : List ℕ) (d : ℕ) → list_any (nat_eq d) xs ≡ is_placed xs d
any_flipped [] d = refl
any_flipped (x ∷ xs) d = rw (any_flipped xs d, flipped x d) refl

pub rails_with_next : (waits : ℕ → ℕ → Bool) (count : ℕ) (placed : List ℕ) (rail : ℕ)
    → AreRails count placed → IsNext waits count placed rail → AreRails count (placed ++ rail ∷ [])
rails_with_next waits count placed rail rails next = record {
  distinct =
      IsDistinct-push nat_eq_equiv placed rail rails.distinct
      (any_flipped placed rail ∙ next.unplaced);
  known = λ d found.
      elim (or_cases (list_any (nat_eq d) placed) (list_any (nat_eq d) (rail ∷ []))
      (sym (list_any-append (nat_eq d) placed (rail ∷ [])) ∙ found)) [
        | inl earlier ↦ rails.known d earlier
        | inr last ↦ known_last d last
      ];
}
  where
    known_last : (d : ℕ) → list_any (nat_eq d) (rail ∷ []) ≡ true → d < count
    known_last d last = elim (or_cases (nat_eq d rail) false last) [
      | inl same ↦ subst (λ r. r < count) (sym (eqb-true d rail same)) next.known
      | inr none ↦ absurd cc
    ]

-- what is known of an order as it grows
pub record IsGrowing (waits : ℕ → ℕ → Bool) (count : ℕ) (placed : List ℕ) : Type 0 where
  pub each_is_next : EachIsNext waits count placed
  pub rails : AreRails count placed

pub nothing_placed : (waits : ℕ → ℕ → Bool) (count : ℕ) (placed : List ℕ) → placed ≡ []
    → IsGrowing waits count placed
unfolding IsDistinct
nothing_placed waits count placed none = subst (IsGrowing waits count) (sym none) (record {
  each_is_next = λ i below. absurd (omega arith);
  rails = record { distinct = search rules; known = λ d found. absurd cc };
})

pub grown : (waits : ℕ → ℕ → Bool) (count : ℕ) (placed shown more : List ℕ) (rail : ℕ)
    → shown ≡ placed → more ≡ placed ++ rail ∷ [] → IsGrowing waits count placed
    → IsNext waits count shown rail → IsGrowing waits count more
grown waits count placed shown more rail same longer growing next_shown =
    let next : IsNext waits count placed rail =
    subst (λ xs. IsNext waits count xs rail) same next_shown in
    subst (IsGrowing waits count) (sym longer) (record {
      each_is_next = each_with_next waits count placed rail growing.each_is_next next;
      rails = rails_with_next waits count placed rail growing.rails next;
    })

-- fewer rails are left behind one more
pub fewer_left : (count : ℕ) (placed more : List ℕ) (rail : ℕ) → more ≡ placed ++ rail ∷ []
    → AreRails count more → count - length more < count - length placed
fewer_left count placed more rail longer rails =
    let longer_by_one : length more ≡ length placed + 1 =
    ap length longer ∙ length-append placed (rail ∷ []) in
    omega (arith, few count more rails)

-- the same where the list is shown twice
pub first_found : (waits : ℕ → ℕ → Bool) (count : ℕ) (placed shown again : List ℕ) (rail : ℕ)
    → shown ≡ placed → again ≡ placed → EachIsNext waits count placed
    → EachIsHeldUp waits count shown count → IsFirstUnplaced count again rail
    → IsFirstNeverReady waits count rail
first_found waits count placed shown again rail same same_again each missing first =
    first_never_ready waits count placed rail each
    (subst (λ xs. EachIsHeldUp waits count xs count) same missing)
    (subst (λ xs. IsFirstUnplaced count xs rail) same_again first)
