-- Addresses and targets.
use Rattle.std.specs.Prelude.{◌≡◌, ℕ, Some}
use Rattle.board.specs.Boards.{Target, Board, place_of_address}
use Rattle.board.specs.Valid.{IsBoard}
use Rattle.targets.specs.States.{IsTargetAt}

-- a target is found by its address, which no other target has
abbrev pub TargetsAreFound : Type 0
TargetsAreFound = (b : Board) (i : ℕ) (t : Target) → IsBoard b → IsTargetAt b i t
    → place_of_address t.address b.targets ≡ Some i
