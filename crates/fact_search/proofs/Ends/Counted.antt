-- Ticks that pay for lost arbitrations: at the start for all that may be lost, elsewhere for each.
use Rattle.std.proofs.Common.{◌≡◌, ◌<◌, ◌≤◌, ◌+◌, ◌*◌, ◌⊎◌, ℕ, zero, suc, List, refl, ap, inl, inr}
use Rattle.std.proofs.Common.{arith, min, mul-le-mul, true}
use Rattle.std.proofs.Math.Nat.{mul-suc}
use Rattle.std.proofs.lemmas.Bool.Decides.{nat_tests}
use Rattle.std.specs.Prelude.{nat_lt, replicate, slice_index}
use Rattle.facts.specs.domain.Rows.{most_ticks}
use Rattle.fact_search.specs.declared.loops.Ticks.{Ticks}
use Rattle.fact_search.specs.Ticking.{later, most_worst, plain}
use Rattle.fact_search.proofs.Ends.Ticked.{left_at}

-- what a place has left: all lost arbitrations paid for beforehand, or each by a coefficient
abbrev pub IsLeft : ℕ → ℕ → ℕ → Ticks → Type 0
IsLeft lost most n left =
    ((left.base ≡ n + lost * most) × (left.lost ≡ 0)) ⊎ ((left.base ≡ n) × (left.lost ≡ lost))

pub all_low : (n lost most : ℕ) → n ≤ 1 + most_worst * 1024 → lost ≤ most_worst → most ≤ 1000
    → n + lost * most ≤ most_ticks
all_low n lost most a few c =
    let m : lost * most ≤ most_worst * 1000 = mul-le-mul {m₂ = 1000} few c in omega (arith, a, m)

pub is_left : (lost most : ℕ) (ticks : List ℕ) (place : ℕ)
    → slice_index ticks place ≤ 1 + most_worst * 1024 → lost ≤ most_worst → most ≤ 1000
    → IsLeft lost most (slice_index ticks place) (left_at lost most ticks place)
is_left lost most ticks zero a few c =
    let h = all_low (slice_index ticks 0) lost most a few c in inl (omega (arith, h), refl)
is_left lost most ticks (suc n) a few c = inr (refl, refl)

pub left_coeffs : (lost most : ℕ) (ticks : List ℕ) (place : ℕ)
    → Ticks.coeffs (left_at lost most ticks place) ≡ replicate 4 0
left_coeffs lost most ticks zero = refl
left_coeffs lost most ticks (suc n) = refl

pub left_later : (lost most : ℕ) (ticks : List ℕ) (n : ℕ) → 0 < n
    → left_at lost most ticks n ≡ later lost (plain (slice_index ticks n))
left_later lost most ticks zero lt = absurd (omega (arith, lt))
left_later lost most ticks (suc n) lt = refl

-- an edge of an instruction's own is paid for
pub pays_own : (lost most n left k cost to : ℕ) (by : Ticks) → IsLeft lost most n by
    → min k cost + to ≤ n → k ≤ cost → left ≤ most
    → k + (to + lost * left) ≤ by.base + by.lost * left
pays_own lost most n left k cost to by (inl e) paid le few =
    let m : lost * left ≤ lost * most = mul-le-mul {m₂ = most} (omega arith) few in
    let z : by.lost * left ≡ 0 * left = ap (λ x. x * left) e.1 in
    omega (arith, e.0, paid, le, m, z)
pays_own lost most n left k cost to by (inr e) paid le few =
    let z : by.lost * left ≡ lost * left = ap (λ x. x * left) e.1 in
    omega (arith, e.0, paid, le, z)

-- and that of a lost arbitration, with what this pays
pub pays_lost : (lost most n left k cost to : ℕ) (by : Ticks) → IsLeft lost most n by
    → min k cost + to ≤ n → k ≤ cost + lost → suc left ≤ most
    → k + (to + lost * left) ≤ (by.base + by.lost) + by.lost * left
pays_lost lost most n left k cost to by (inl e) paid le few =
    let m : lost * suc left ≤ lost * most = mul-le-mul {m₂ = most} (omega arith) few in
    let s : lost * suc left ≡ lost * left + lost = mul-suc lost left in
    let z : by.lost * left ≡ 0 * left = ap (λ x. x * left) e.1 in
    omega (arith, e.0, e.1, paid, le, m, s, z)
pays_lost lost most n left k cost to by (inr e) paid le few =
    let z : by.lost * left ≡ lost * left = ap (λ x. x * left) e.1 in
    omega (arith, e.0, e.1, paid, le, z)

pub lower : (a b : ℕ) → nat_lt a b ≡ true → a < b
lower a b e = grind (arith, nat_tests)
