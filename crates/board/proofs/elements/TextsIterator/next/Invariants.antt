use Rattle.std.proofs.Common.{◌≡◌, length}
use Rattle.board.specs.Elements.{texts_left}
use Rattle.board.proofs.elements.TextsIterator.next.Given as goal

-- what was passed over gives none
abbrev pub invariant-loop-value : goal.invariant-loop-value
invariant-loop-value l = texts_left l.self ≡ texts_left l.fn.self

abbrev pub decreases-loop-value : goal.decreases-loop-value
decreases-loop-value l = length l.self.values.now
