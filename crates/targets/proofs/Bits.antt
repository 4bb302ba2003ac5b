-- A word of 16 bits has none from bit 16 on.
use Rattle.std.proofs.Common.{◌≡◌, ◌<◌, ◌==◌, ◌⊎◌, ◌↔◌, ◌∙◌, inl, inr, ℕ, IsTrue, true, false}
use Rattle.std.proofs.Common.{bit_or}
use Rattle.std.proofs.Common.{bit_and, w16, max, ◌*◌, ◌^◌, ◌%◌, ◌≢◌, ap, sym, Some, arith}
use Rattle.std.specs.Int.{bit_at, bit_not}
use Rattle.std.proofs.lemmas.Bool.{cases_lt}
use Rattle.std.proofs.lemmas.Nat.Bits.{bit_at_above, bit_at_or, bit_at-lt, bit_at_clear_same}
use Rattle.std.proofs.lemmas.Nat.Bits.{bit_at_clear_other}
use Rattle.std.proofs.lemmas.Nat.{and_le_l, and_le_r}
use Rattle.std.proofs.lemmas.Bool.Decides.{nat_tests}
use Rattle.wires.specs.Bits.{bit}

not_one : (b : ℕ) → b ≡ 0 → IsTrue (b == 1) → ⊥
not_one b e t = grind (arith, nat_tests)

pub bits_few : (n i : ℕ) → n < 65536 → IsTrue (bit n i) → i < 16
bits_few n i lt set = elim (cases_lt i 16) [
  | inl h ↦ h
  | inr h ↦ absurd (not_one (bit_at n i) (bit_at_above n 16 i lt h) set)
]

is_one : (b : ℕ) → IsTrue (b == 1) → b ≡ 1
is_one b t = grind (arith, nat_tests)

one_is : (b : ℕ) → b ≡ 1 → IsTrue (b == 1)
one_is b e = grind (arith, nat_tests)

which_max : (x y m : ℕ) → m ≡ max x y → m ≡ 1 → (x ≡ 1) ⊎ (y ≡ 1)
which_max x y m e o = grind arith

pub bit_joined : (a b i : ℕ) → IsTrue (bit (bit_or a b) i) ↔ (IsTrue (bit a i) ⊎ IsTrue (bit b i))
bit_joined a b i = (from, to)
  where
    e : bit_at (bit_or a b) i ≡ max (bit_at a i) (bit_at b i)
    e = bit_at_or a b i

    from : IsTrue (bit (bit_or a b) i) → IsTrue (bit a i) ⊎ IsTrue (bit b i)
    from t =
        elim (which_max (bit_at a i) (bit_at b i) (bit_at (bit_or a b) i) (bit_at_or a b i)
        (is_one (bit_at (bit_or a b) i) t)) [ inl h ↦ inl (one_is _ h) | inr h ↦ inr (one_is _ h) ]

    to : IsTrue (bit a i) ⊎ IsTrue (bit b i) → IsTrue (bit (bit_or a b) i)
    to (inl h) =
        one_is _
        (bit_at_or a b i ∙ least_one (bit_at a i) (bit_at b i) (is_one _ h) (bit_at-lt b i))
      where
        least_one : (x y : ℕ) → x ≡ 1 → y < 2 → max x y ≡ 1
        least_one x y e lt = grind arith
    to (inr h) =
        one_is _
        (bit_at_or a b i ∙ other_one (bit_at a i) (bit_at b i) (is_one _ h) (bit_at-lt a i))
      where
        other_one : (x y : ℕ) → y ≡ 1 → x < 2 → max x y ≡ 1
        other_one x y e lt = grind arith

zero_is : (b : ℕ) → b ≡ 0 → (b == 1) ≡ false
zero_is b e = grind (arith, nat_tests)

pub bit_without_same : (n k : ℕ) → k < 16
    → bit (bit_and n (bit_not w16 (1 * 2 ^ k % 2 ^ 16))) k ≡ false
bit_without_same n k lt = zero_is _ (bit_at_clear_same w16 n k lt)

pub bit_without_other : (n k : ℕ) → n < 65536 → k < 16 → (i : ℕ) → i ≢ k
    → bit (bit_and n (bit_not w16 (1 * 2 ^ k % 2 ^ 16))) i ≡ bit n i
bit_without_other n k fits lt i other = elim (cases_lt i 16) [
  | inl few ↦ ap (λ (b : ℕ). b == 1) (bit_at_clear_other w16 n k lt i few other)
  | inr many ↦
      let le = and_le_l n (bit_not w16 (1 * 2 ^ k % 2 ^ 16)) in
      zero_is _ (bit_at_above _ 16 i (omega arith) many)
      ∙ sym (zero_is _ (bit_at_above n 16 i fits many))
]

below_word : (n : ℕ) → bit_not w16 n < 65536
below_word n = omega arith

-- what is left of a number without bits from 16 on, where bit k is cleared
pub bit_without_left : (n k : ℕ) → k < 16 → ((i : ℕ) → IsTrue (bit n i) → i < 16) → (i : ℕ)
    → IsTrue (bit (bit_and n (bit_not w16 (1 * 2 ^ k % 2 ^ 16))) i)
    ↔ (IsTrue (bit n i) × (Some k ≢ Some i))
bit_without_left n k lt low i = elim (cases_lt i 16) [
  | inl few ↦ by_place few (same_place i k)
  | inr many ↦ (
    (λ t.
        let le = and_le_r n (bit_not w16 (1 * 2 ^ k % 2 ^ 16)) in
        absurd
        (not_one _ (bit_at_above _ 16 i (omega (arith, below_word (1 * 2 ^ k % 2 ^ 16))) many)
        t)),
    (λ both. absurd (let few = low i both.0 in omega arith)),
  )
]
  where
    same_place : (i k : ℕ) → (i ≡ k) ⊎ (i ≢ k)
    same_place i k = elim (cases_lt i k) [
      | inl lt ↦ inr (λ e. omega arith)
      | inr le ↦ elim (cases_lt k i) [
        | inl lt ↦ inr (λ e. omega arith)
        | inr ge ↦ inl (omega arith)
      ]
    ]

    by_place : i < 16 → (i ≡ k) ⊎ (i ≢ k)
        → IsTrue (bit (bit_and n (bit_not w16 (1 * 2 ^ k % 2 ^ 16))) i)
        ↔ (IsTrue (bit n i) × (Some k ≢ Some i))
    by_place few (inl e) = (
      (λ t.
          let off = bit_without_same n k lt in
          let on = rw e at t in
          let bad : true ≡ false = sym on ∙ off in
          cc),
      (λ both. absurd (both.1 (ap Some (sym e)))),
    )
    by_place few (inr other) =
        let same : bit (bit_and n (bit_not w16 (1 * 2 ^ k % 2 ^ 16))) i ≡ bit n i =
        ap (λ (b : ℕ). b == 1) (bit_at_clear_other w16 n k lt i few other) in (
          (λ t. (sym same ∙ t, λ e. let h : k ≡ i = cc in other (sym h))),
          (λ both. same ∙ both.0),
        )
