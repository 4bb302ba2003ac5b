-- The address of a target has seven bits.
use Rattle.std.proofs.Common.{◌≤◌, ℕ, IsTrue, arith}
use Rattle.std.proofs.lemmas.Bool.Decides.{nat_tests}
use Rattle.board.specs.Boards.{Target, Board}
use Rattle.board.specs.Valid.{IsTarget, IsBoard, is_target_address}
use Rattle.targets.specs.States.{IsTargetAt}
use Rattle.simulator.proofs.NextPlaces.{at_place}

pub address_small : (b : Board) (i : ℕ) (t : Target) → IsBoard b → IsTargetAt b i t
    → t.address ≤ 127
address_small b i t is at = small t.address (at_place IsTarget b.targets i t is.targets at).address
  where
    small : (address : ℕ) → IsTrue (is_target_address address) → address ≤ 127
    small address is = grind (arith, nat_tests)
