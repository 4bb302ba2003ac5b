use Rattle.std.proofs.Common.{◌≡◌, max, drop}
use Rattle.board.specs.Boards.{largest_stretch}
use Rattle.board.proofs.board.Board.largest_stretch.Given as goal

abbrev pub invariant-loop-target : goal.invariant-loop-target
invariant-loop-target l =
    max l.largest (largest_stretch (drop l.target-index l.target-items))
    ≡ largest_stretch l.fn.self.targets
