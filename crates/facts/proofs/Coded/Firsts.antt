-- The first item of a list that isn't so.
use Rattle.std.proofs.Common.{◌≡◌, ◌∙◌, ◌<◌, ◌≤◌, ◌+◌, inl, inr, ℕ, List, length, take, All}
use Rattle.std.proofs.Common.{Option, Some, None, MatchOption}
use Rattle.std.proofs.Common.{slice_get, slice_index_or, sym, ap, subst, arith}
use Rattle.std.specs.List.{AllWithin, HoldsAt}
use Rattle.std.proofs.lemmas.Bool.{cases_lt}
use Rattle.std.proofs.lemmas.List.{get_or-take, take_all, length-take-le}
use Rattle.std.proofs.lemmas.List.Elements.{All-more, All-get_or, All-from_all_within}
use Rattle.std.proofs.lemmas.Option.{slice_get_within, get_or_from_slice_get}
use Rattle.facts.specs.duties.Violations.{IsFirstNot}
use Rattle.facts.specs.duties.Blaming.{FindsPlace, FindsItem}
use Rattle.facts.proofs.Shared.Places.{some_same, found}

-- what is so of all up to a place is so of what stands before it
so_before : {A : Type 0} (Is : A → Type 0) (xs : List A) (n m : ℕ) (x : A) → All Is (take m xs)
    → m ≤ length xs → n < m → slice_get xs n ≡ Some x → Is x
so_before Is xs n m x all few lt here =
    let count = length-take-le m xs few in
    subst Is (get_or-take m xs n x lt ∙ get_or_from_slice_get xs n x x here)
    (All-get_or Is (take m xs) n x (omega (arith, count)) all)

-- there is only one first
pub only_first : {A : Type 0} (Is : A → Type 0) (xs : List A) (n m : ℕ) (x y : A)
    → IsFirstNot Is xs n x → IsFirstNot Is xs m y → (n ≡ m) × (x ≡ y)
only_first Is xs n m x y f g =
    let n_in = slice_get_within xs n x f.here in
    let m_in = slice_get_within xs m y g.here in
    elim (cases_lt n m) [
      | inl lt ↦ absurd (f.fails (so_before Is xs n m x g.before (omega arith) lt f.here))
      | inr le ↦ elim (cases_lt m n) [
        | inl lt ↦ absurd (g.fails (so_before Is xs m n y f.before (omega arith) lt g.here))
        | inr ge ↦ let same : n ≡ m = omega arith in
            (same, some_same x y (sym f.here ∙ (ap (slice_get xs) same ∙ g.here)))
      ]
    ]

-- where there is one, not all are so
pub not_all : {A : Type 0} (Is : A → Type 0) (xs : List A) (n : ℕ) (x : A) → IsFirstNot Is xs n x
    → All Is xs → ⊥
not_all Is xs n x f all =
    f.fails (subst Is (get_or_from_slice_get xs n x x f.here)
    (All-get_or Is xs n x (slice_get_within xs n x f.here) all))

-- a loop over the list goes on, and ends
pub one_more : {A : Type 0} (Is : A → Type 0) (xs : List A) (n : ℕ) (x : A) → n < length xs
    → x ≡ slice_index_or xs n x → All Is (take n xs) → Is x → All Is (take (n + 1) xs)
one_more Is xs n x lt here all is = All-more Is xs n x lt all (subst Is here is)

pub all_so : {A : Type 0} (Is : A → Type 0) (xs : List A) (n : ℕ) → length xs ≤ n
    → All Is (take n xs) → All Is xs
all_so Is xs n le all = subst (All Is) (take_all n xs le) all

-- what a search for the first answers, by its place and by itself
abbrev pub Searched : {A : Type 0} → (A → Type 0) → List A → Option ℕ → Type 0
Searched Is xs found =
    MatchOption found (AllWithin Is xs 0 (length xs))
    (λ n. (n < length xs) × HoldsAt (λ x. Is x → ⊥) xs n × AllWithin Is xs 0 n)

all_taken : {A : Type 0} (Is : A → Type 0) (xs : List A) (n : ℕ) → n ≤ length xs
    → AllWithin Is xs 0 n → All Is (take n xs)
all_taken Is xs n le all = λ k d lt.
    let count = length-take-le n xs le in
    let below : k < n = omega arith in
    subst Is (sym (get_or-take n xs k d below)) (all k d (omega arith) below)

first_here : {A : Type 0} (Is : A → Type 0) (xs : List A) (n : ℕ) (x : A) → n < length xs
    → HoldsAt (λ y. Is y → ⊥) xs n → AllWithin Is xs 0 n → slice_get xs n ≡ Some x
    → IsFirstNot Is xs n x
first_here Is xs n x lt fails all is = record {
  here = is;
  fails = λ so. fails x (subst Is (sym (get_or_from_slice_get xs n x x is)) so);
  before = all_taken Is xs n (omega arith) all;
}

pub found_place : {A : Type 0} (Is : A → Type 0) (xs : List A) (found : Option ℕ)
    → Searched Is xs found → FindsPlace Is xs found
found_place Is xs None all = All-from_all_within Is xs all
found_place Is xs (Some n) h =
    let item = found xs n h.0 in (item.0, first_here Is xs n item.0 h.0 h.1 h.2 item.1)

pub found_item : {A : Type 0} (Is : A → Type 0) (xs : List A) (n : ℕ) (d : A)
    → Searched Is xs (Some n) → FindsItem Is xs (Some (slice_index_or xs n d))
found_item Is xs n d h =
    let item = found xs n h.0 in
    let is : slice_index_or xs n d ≡ item.0 = get_or_from_slice_get xs n item.0 d item.1 in (
      n,
      first_here Is xs n (slice_index_or xs n d) h.0 h.1 h.2
          (item.1 ∙ ap (λ x. Some x) (sym is)),
    )
