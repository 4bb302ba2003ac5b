-- What holds of each element of a list by its index, from the first on.
use Rattle.std.proofs.Common.{◌≡◌, ◌<◌, ◌+◌, ℕ, List, length, slice_get, slice_index_or, Some, refl}
use Rattle.std.proofs.Common.{sym, ◌∙◌, subst, inl, inr, arith, slice_index}
use Rattle.std.proofs.lemmas.Bool.{cases_lt}
use Rattle.std.proofs.lemmas.Grind.{get_or_default_zero}
use Rattle.std.proofs.lemmas.Option.{slice_get_read}

-- one element more
pub one_more : {X : Type 0} (P : ℕ → X → Type 0) (xs : List X) (index : ℕ) (x : X)
    → index < length xs → x ≡ slice_index_or xs index x
    → ((i : ℕ) (y : X) → i < index → slice_get xs i ≡ Some y → P i y) → P index x
    → (i : ℕ) (y : X) → i < index + 1 → slice_get xs i ≡ Some y → P i y
one_more P xs index x within is before here i y lt at = elim (cases_lt i index) [
  | inl less ↦ before i y less at
  | inr ge ↦
      let same : i ≡ index = omega (arith, lt, ge) in
      let read : slice_get xs index ≡ Some x =
      slice_get_read xs (length xs) index x refl within is in
      let elements : Some y ≡ Some x =
      sym at ∙ subst (λ n. slice_get xs n ≡ Some x) (sym same) read in
      let one : x ≡ y = cc in
      subst (λ n. P n y) (sym same) (subst (P index) one here)
]

-- a number that is read
pub read_is : (xs ys : List ℕ) (i x n : ℕ) → xs ≡ ys → length ys ≡ n → i < n
    → x ≡ slice_index_or xs i x → x ≡ slice_index ys i
read_is xs ys i x n same long within is =
    let lt : i < length ys = omega (arith, long, within) in
    rw same at is ∙ get_or_default_zero ys i x lt

-- what is read where an element is there
pub element_is : {X : Type 0} (xs : List X) (i : ℕ) (x : X) → i < length xs
    → x ≡ slice_index_or xs i x → slice_get xs i ≡ Some x
element_is xs i x within is = slice_get_read xs (length xs) i x refl within is
