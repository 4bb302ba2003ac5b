-- Where the ticks of a row don't pay for those of the next one.
use Rattle.std.proofs.Common.{◌≡◌, ◌+◌, ◌-◌, ◌*◌, ◌<◌, ◌≤◌, ◌⊎◌, inl, inr, ℕ, List, ◌∷◌, length, ap}
use Rattle.std.proofs.Common.{sym, subst, arith}
use Rattle.std.specs.Prelude.{nat_lt}
use Rattle.std.specs.List.{AllByRecursion}
use Rattle.std.proofs.lemmas.Bool.{cases_lt, cond-true, cond-false, lt-ltb, le-ltb, cond_both}
use Rattle.board.specs.Boards.{Board}
use Rattle.facts.specs.declared.domain.span.Span.{Span}
use Rattle.facts.specs.domain.Rows.{Row, InSpan, InSpans, rank}
use Rattle.facts.specs.FactLaws.{without_ticks}
use Rattle.table_check.specs.checker.Rules.{PaysEnd}
use Rattle.table_check.specs.declared.checker.breach.Spot.{Spot}
use Rattle.table_check.specs.checker.Lacking.{dearest, dearest_counters, dearest_lost, IsUnpaid}
use Rattle.table_check.specs.checker.Looking.{PaysFor}
use Rattle.table_check.proofs.Gains.{dearest_inside, left_inside, most_lacking, no_weight}

-- how many arbitrations may still be lost, where so many were lost
abbrev pub left_in : ℕ → Span → Span
left_in most lost = record { lo = most - lost.hi; hi = most - lost.lo }

dearest_left : (most k j : ℕ) (lost : Span)
    → dearest k j (left_in most lost) ≡ most - dearest_lost k j lost
dearest_left most k j lost = go (cases_lt k j)
  where
    go : (k < j) ⊎ (j ≤ k) → dearest k j (left_in most lost) ≡ most - dearest_lost k j lost
    go (inl lt) =
        let one = cond-true (nat_lt k j) (most - lost.lo) (most - lost.hi) (lt-ltb k j lt) in
        let two = cond-true (nat_lt k j) lost.lo lost.hi (lt-ltb k j lt) in
        omega (arith, one, two)
    go (inr le) =
        let one = cond-false (nat_lt k j) (most - lost.lo) (most - lost.hi) (le-ltb k j le) in
        let two = cond-false (nat_lt k j) lost.lo lost.hi (le-ltb k j le) in
        omega (arith, one, two)

pub lost_inside : (k j : ℕ) (lost : Span) → lost.lo ≤ lost.hi → InSpan lost (dearest_lost k j lost)
lost_inside k j lost le =
    cond_both (nat_lt k j) lost.lo lost.hi (λ x. InSpan lost x) (λ _. (omega arith, le))
    (λ _. (le, omega arith))

-- the rank of a row where it lacks most beside the next one
abbrev pub at_dearest : Board → Row → Row → Row → ℕ
at_dearest b next row r =
    rank r (dearest_counters row.counters row.coeffs next.coeffs)
    (b.contentions - dearest_lost row.lost_coeff next.lost_coeff row.lost)

pub most_there : (b : Board) (next row : Row) → length row.coeffs ≡ length row.counters
    → length next.coeffs ≡ length row.counters → row.lost.hi ≤ b.contentions
    → (cs : List ℕ) → InSpans row.counters cs → (l : ℕ) → InSpan row.lost l
    → rank next cs (b.contentions - l) + at_dearest b next row row
    ≤ at_dearest b next row next + rank row cs (b.contentions - l)
most_there b next row e f top cs inside l here =
    let k = row.lost_coeff in
    let j = next.lost_coeff in
    let left = left_in b.contentions row.lost in
    let more = most_lacking (left ∷ row.counters) (k ∷ row.coeffs) (j ∷ next.coeffs)
    ((b.contentions - l) ∷ cs) (omega (arith, e)) (omega (arith, f))
    (left_inside b.contentions row.lost l top here, inside) in
    let same = dearest_left b.contentions k j row.lost in
    let before = ap (λ x. k * x) same in
    let after = ap (λ x. j * x) same in
    omega (arith, more, before, after)

pub pays_there : (b : Board) (ticks : ℕ) (next row : Row) → length row.coeffs ≡ length row.counters
    → length next.coeffs ≡ length row.counters → row.lost.hi ≤ b.contentions
    → ticks + at_dearest b next row next ≤ at_dearest b next row row → PaysFor b ticks next row
pays_there b ticks next row e f top le = λ cs inside l here.
    let more = most_there b next row e f top cs inside l here in
    omega (arith, more, le)

pub lacks_there : (b : Board) (ticks : ℕ) (next row : Row)
    → length row.coeffs ≡ length row.counters
    → length next.coeffs ≡ length row.counters → row.lost.lo ≤ row.lost.hi
    → row.lost.hi ≤ b.contentions → AllByRecursion (λ s. s.lo ≤ s.hi) row.counters
    → (spot : Spot) (needed left : ℕ)
    → spot.counters ≡ dearest_counters row.counters row.coeffs next.coeffs
    → spot.lost ≡ dearest_lost row.lost_coeff next.lost_coeff row.lost
    → needed ≡ ticks + rank next spot.counters (b.contentions - spot.lost)
    → left ≡ rank row spot.counters (b.contentions - spot.lost) → left < needed
    → IsUnpaid b ticks next row spot needed left
lacks_there b ticks next row e f order top spans spot needed left cs l n m lacks = record {
  counters_are = cs;
  lost_is = l;
  counters = subst (InSpans row.counters) (sym cs)
      (dearest_inside row.counters row.coeffs next.coeffs e f spans);
  lost = subst (InSpan row.lost) (sym l)
      (lost_inside row.lost_coeff next.lost_coeff row.lost order);
  needed_is = n;
  left_is = m;
  lacks = lacks;
  most = λ others inside x here.
      let more = most_there b next row e f top others inside x here in
      let n' : needed ≡ ticks + at_dearest b next row next = needed_there in
      let m' : left ≡ at_dearest b next row row = left_there in
      omega (arith, more, n', m');
}
  where
    needed_there : needed ≡ ticks + at_dearest b next row next
    needed_there = rw (cs, l) at n

    left_there : left ≡ at_dearest b next row row
    left_there = rw (cs, l) at m

-- where ticks are lacking, a row doesn't pay
pub unpaid_fails : (b : Board) (ticks : ℕ) (next row : Row) (spot : Spot) (needed left : ℕ)
    → IsUnpaid b ticks next row spot needed left → PaysFor b ticks next row → ⊥
unpaid_fails b ticks next row spot needed left u pays =
    let paid = pays spot.counters u.counters spot.lost u.lost in
    let n = u.needed_is in
    let l = u.left_is in
    let lacks = u.lacks in
    absurd (omega (arith, paid, n, l, lacks))

-- an end, beside a row of no ticks
no_ticks : (row : Row) (cs : List ℕ) (l : ℕ) → rank (without_ticks row) cs l ≡ 0
no_ticks row cs l = let none = no_weight 4 cs in omega (arith, none)

pub end_paid : (b : Board) (row : Row) → PaysFor b 1 (without_ticks row) row → PaysEnd b row
end_paid b row pays = λ cs inside l here.
    let one = pays cs inside l here in
    omega (arith, one)

pub end_unpaid : (b : Board) (row : Row) (spot : Spot) (needed left : ℕ)
    → IsUnpaid b 1 (without_ticks row) row spot needed left → PaysEnd b row → ⊥
end_unpaid b row spot needed left u pays =
    unpaid_fails b 1 (without_ticks row) row spot needed left u
    (λ cs inside l here.
    let one = pays cs inside l here in
    let none = no_ticks row cs (b.contentions - l) in
    omega (arith, one, none))

pub end_counts : (b : Board) (row : Row) (spot : Spot) (needed left : ℕ)
    → IsUnpaid b 1 (without_ticks row) row spot needed left
    → IsUnpaid b 1 (without_ticks row) row spot 1 0
end_counts b row spot needed left u =
    let none = no_ticks row spot.counters (b.contentions - spot.lost) in
    let n = u.needed_is in
    let lacks = u.lacks in
    let one : needed ≡ 1 = omega (arith, none, n) in
    let zero' : left ≡ 0 = omega (arith, one, lacks) in
    subst (λ m. IsUnpaid b 1 (without_ticks row) row spot m 0) one
    (subst (λ m. IsUnpaid b 1 (without_ticks row) row spot needed m) zero' u)
