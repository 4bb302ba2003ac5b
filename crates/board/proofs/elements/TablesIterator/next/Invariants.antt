use Rattle.std.proofs.Common.{◌≡◌, length}
use Rattle.board.specs.Elements.{tables_left}
use Rattle.board.proofs.elements.TablesIterator.next.Given as goal

-- what was passed over gives none
abbrev pub invariant-loop-value : goal.invariant-loop-value
invariant-loop-value l = tables_left l.self ≡ tables_left l.fn.self

abbrev pub decreases-loop-value : goal.decreases-loop-value
decreases-loop-value l = length l.self.values.now
