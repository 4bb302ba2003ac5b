-- What follows for orders in which each rail is the next.
use Rattle.std.proofs.Common.{◌≡◌, ◌<◌, ◌≤◌, ◌++◌, ◌∙◌, ℕ, suc, zero, List, [], ◌∷◌, Bool, true}
use Rattle.std.proofs.Common.{false, ◌==◌, ◌||◌, IsTrue, length, slice_index, take, sym, ap, subst}
use Rattle.std.proofs.Common.{refl, arith, inl, inr}
use Rattle.std.proofs.Math.Bool.{or-true}
use Rattle.std.proofs.Math.Seq.{take-suc}
use Rattle.std.proofs.lemmas.Bool.{cases_lt, cases_order}
use Rattle.std.proofs.lemmas.Cmp.{nat_eq_equiv}
use Rattle.std.proofs.lemmas.List.{take_all}
use Rattle.drafts.specs.Orders.{is_placed, IsNext, IsOrder}
use Rattle.drafts.specs.OrderLaws.{NoneStandsTwice, AwaitedStandBefore, OrdersAreTheSame}
use Rattle.drafts.proofs.Placing.{place_before, both}

-- a rail is one of the first so many
pub stands_in : (xs : List ℕ) (i n : ℕ) → i < n → i < length xs
    → is_placed (take n xs) (slice_index xs i) ≡ true
stands_in xs i zero below there = absurd (omega arith)
stands_in [] i (suc n) below there = absurd (omega arith)
stands_in (x ∷ xs) zero (suc n) below there =
    ap (λ (t : Bool). t || is_placed (take n xs) x) (nat_eq_equiv.refl x)
stands_in (x ∷ xs) (suc i) (suc n) below there =
    ap (λ (t : Bool). (x == slice_index xs i) || t)
    (stands_in xs i n (omega arith) (omega arith)) ∙ or-true (x == slice_index xs i)

pub none_twice : NoneStandsTwice
none_twice waits count order is i j before there same =
    let placed : is_placed (take j order) (slice_index order j) ≡ true =
    subst (λ d. is_placed (take j order) d ≡ true) same
    (stands_in order i j before (omega arith)) in
    both placed refl (is.each_is_next j there).unplaced

pub awaited_before : AwaitedStandBefore
awaited_before waits count order is i j there there_too waiting =
    let placed =
    (is.each_is_next i there).ready (slice_index order j) (is.each_is_next j there_too).known
    waiting in
    let at = place_before order i (slice_index order j) placed in
    elim (cases_lt j i) [
      | inl before ↦ before
      | inr behind ↦
          absurd
          (none_twice waits count order is at.0 j (omega (arith, at.1, behind)) there_too at.2)
    ]

-- one rail is the next
pub same_next : (waits : ℕ → ℕ → Bool) (count : ℕ) (placed : List ℕ) (d e : ℕ)
    → IsNext waits count placed d → IsNext waits count placed e → d ≡ e
same_next waits count placed d e one other = elim (cases_order d e) [
  | inl same ↦ same
  | inr apart ↦ elim apart [
    | inl before ↦ absurd (other.first d before one.unplaced one.ready)
    | inr behind ↦ absurd (one.first e behind other.unplaced other.ready)
  ]
]

-- two orders begin in the same way
pub same_so_far : (waits : ℕ → ℕ → Bool) (count : ℕ) (one other : List ℕ)
    → IsOrder waits count one → IsOrder waits count other → (n : ℕ) → n ≤ length one
    → n ≤ length other → take n one ≡ take n other
same_so_far waits count one other is also zero within within_too = refl
same_so_far waits count one other is also (suc n) within within_too =
    let so_far = same_so_far waits count one other is also n (omega arith) (omega arith) in
    let next : IsNext waits count (take n one) (slice_index one n) =
    is.each_is_next n (omega arith) in
    let next_too : IsNext waits count (take n one) (slice_index other n) =
    subst (λ xs. IsNext waits count xs (slice_index other n)) (sym so_far)
    (also.each_is_next n (omega arith)) in
    let same = same_next waits count (take n one) _ _ next next_too in
    take-suc one n 0 (omega arith)
    ∙ (ap (λ xs. xs ++ slice_index one n ∷ []) so_far
    ∙ (ap (λ d. take n other ++ d ∷ []) same ∙ sym (take-suc other n 0 (omega arith))))

-- none goes on where the other ends
pub none_longer : (waits : ℕ → ℕ → Bool) (count : ℕ) (one other : List ℕ)
    → IsOrder waits count one → IsOrder waits count other → length one < length other → ⊥
none_longer waits count one other is also longer =
    let next = also.each_is_next (length one) longer in
    let front : take (length one) other ≡ one =
    sym (same_so_far waits count one other is also (length one) (omega arith) (omega arith))
    ∙ take_all (length one) one (omega arith) in
    let unplaced : is_placed one (slice_index other (length one)) ≡ false =
    subst (λ xs. is_placed xs (slice_index other (length one)) ≡ false) front next.unplaced in
    both (is.all (slice_index other (length one)) next.known) refl unplaced

pub same_orders : OrdersAreTheSame
same_orders waits count one other is also = elim (cases_order (length one) (length other)) [
  | inl same ↦
      sym (take_all (length one) one (omega arith))
      ∙ (same_so_far waits count one other is also (length one) (omega arith) (omega arith)
      ∙ take_all (length one) other (omega arith))
  | inr apart ↦ elim apart [
    | inl longer ↦ absurd (none_longer waits count one other is also longer)
    | inr shorter ↦ absurd (none_longer waits count other one also is shorter)
  ]
]
