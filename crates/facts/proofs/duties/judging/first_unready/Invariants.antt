use Rattle.std.proofs.Common.{All, take}
use Rattle.facts.specs.duties.Touching.{HasGoodNeeds}
use Rattle.facts.proofs.duties.judging.first_unready.Given as goal

abbrev pub invariant-loop-index : goal.invariant-loop-index
invariant-loop-index l =
    All (HasGoodNeeds l.pages l.target l.good) (take l.index l.board.rails)
