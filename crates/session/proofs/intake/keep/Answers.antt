use Rattle.std.proofs.Common.{arith}
use Rattle.session.proofs.Transfers.{keep_front, keep_all}
use Rattle.session.proofs.intake.keep.Goals as goal

pub returns-then-count-piece : goal.returns-then-count-piece
returns-then-count-piece c = λ all front.
    keep_front _ all _ _ _ c.min-count.result front
    (omega arith) c.in_ok-extend_from_slice.ensures.items c.if-count-piece.true

pub returns-else-count-piece : goal.returns-else-count-piece
returns-else-count-piece c = λ all front.
    keep_all _ all _ _ _ c.min-count.result front
    (omega arith) c.in_ok-extend_from_slice.ensures.items c.if-count-piece.false
