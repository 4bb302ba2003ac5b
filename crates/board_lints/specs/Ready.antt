-- Rails that are ready.
use Rattle.std.specs.Prelude.{◌<◌, ℕ, List, Bool, nat_eq, length, IsTrue}
use Rattle.std.specs.List.{list_any, IsDistinct}
use Rattle.board.specs.Boards.{Board}

abbrev pub is_ready : List ℕ → ℕ → Bool
is_ready ready rail = list_any (nat_eq rail) ready

-- rails of a board, each once
pub record AreRails (b : Board) (ready : List ℕ) : Type 0 where
  pub apart : IsDistinct nat_eq ready
  pub within : (d : ℕ) → IsTrue (is_ready ready d) → d < length b.rails

-- the rails of one list are in another
abbrev pub AreAmong : List ℕ → List ℕ → Type 0
AreAmong rails more = (d : ℕ) → IsTrue (is_ready rails d) → IsTrue (is_ready more d)
