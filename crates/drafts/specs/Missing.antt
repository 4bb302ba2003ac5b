-- What still waits while an order is made.
use Rattle.std.specs.Prelude.{◌≡◌, ◌<◌, ℕ, List, Bool, false, IsTrue}
use Rattle.drafts.specs.Orders.{is_placed, IsReady}

-- the rail waits for the other, which isn't placed
pub record IsMissing (waits : ℕ → ℕ → Bool) (count : ℕ) (placed : List ℕ) (rail other : ℕ)
    : Type 0 where
  pub known : other < count
  pub awaited : IsTrue (waits rail other)
  pub unplaced : is_placed placed other ≡ false

-- the rail isn't placed, and all that it waits for are
pub record IsReadyNext (waits : ℕ → ℕ → Bool) (count : ℕ) (placed : List ℕ) (rail : ℕ)
    : Type 0 where
  pub unplaced : is_placed placed rail ≡ false
  pub ready : IsReady waits count placed rail

-- unless the rail is placed, it waits for one that isn't
abbrev pub IsHeldUp : (ℕ → ℕ → Bool) → ℕ → List ℕ → ℕ → Type 0
IsHeldUp waits count placed rail =
    is_placed placed rail ≡ false → (other : ℕ) × IsMissing waits count placed rail other

-- so does each rail below the last
abbrev pub EachIsHeldUp : (ℕ → ℕ → Bool) → ℕ → List ℕ → ℕ → Type 0
EachIsHeldUp waits count placed last =
    (d : ℕ) → d < last → IsHeldUp waits count placed d

-- the first rail that isn't placed
pub record IsFirstUnplaced (count : ℕ) (placed : List ℕ) (rail : ℕ) : Type 0 where
  pub known : rail < count
  pub unplaced : is_placed placed rail ≡ false
  pub first : (d : ℕ) → d < rail → IsTrue (is_placed placed d)
