-- What follows for orders in which each rail is the next.
use Rattle.std.specs.Prelude.{◌≡◌, ◌<◌, ℕ, List, Bool, IsTrue, length, slice_index}
use Rattle.drafts.specs.Orders.{IsOrder}

-- no rail stands at two places
abbrev pub NoneStandsTwice : Type 0
NoneStandsTwice =
    (waits : ℕ → ℕ → Bool) (count : ℕ) (order : List ℕ) → IsOrder waits count order
    → (i j : ℕ) → i < j → j < length order → slice_index order i ≡ slice_index order j → ⊥

-- a rail stands behind each that it waits for
abbrev pub AwaitedStandBefore : Type 0
AwaitedStandBefore =
    (waits : ℕ → ℕ → Bool) (count : ℕ) (order : List ℕ) → IsOrder waits count order
    → (i j : ℕ) → i < length order → j < length order
    → IsTrue (waits (slice_index order i) (slice_index order j)) → j < i

-- there is one order at most
abbrev pub OrdersAreTheSame : Type 0
OrdersAreTheSame =
    (waits : ℕ → ℕ → Bool) (count : ℕ) (one other : List ℕ)
    → IsOrder waits count one → IsOrder waits count other → one ≡ other
