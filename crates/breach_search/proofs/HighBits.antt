-- Numbers without high bits.
use Rattle.std.proofs.Common.{◌≡◌, ◌<◌, ◌^◌, ◌*◌, ◌+◌, ◌/◌, ◌%◌, ◌==◌, ℕ, inl, inr, ap, arith}
use Rattle.std.specs.Prelude.{IsTrue}
use Rattle.std.specs.Int.{bit_at}
use Rattle.std.proofs.lemmas.Bool.{cases_lt}
use Rattle.std.proofs.lemmas.Nat.{shr_split, pow_pos}
use Rattle.std.proofs.lemmas.Nat.Bits.{bit_at_above}

pub no_bit_from : (bits place : ℕ) → bits < 2 ^ place → (i : ℕ) → IsTrue (bit_at bits i == 1)
    → i < place
no_bit_from bits place lt i set = elim (cases_lt i place) [
  | inl less ↦ less
  | inr ge ↦
      let none : bit_at bits i ≡ 0 = bit_at_above bits place i lt ge in
      let both = rw none at set in
      cc both
]

small : (n d q : ℕ) → q * d + n % d ≡ n → q ≡ 0 → 0 < d → n < d
small n d q split none some =
    let gone : q * d ≡ 0 * d = ap (λ (k : ℕ). k * d) none in
    let left : n % d ≡ n = omega (arith, split, gone) in
    omega arith

pub none_left : (bits place : ℕ) → bits / 2 ^ place ≡ 0 → bits < 2 ^ place
none_left bits place none =
    small bits (2 ^ place) (bits / 2 ^ place) (shr_split bits place) none (pow_pos place)
