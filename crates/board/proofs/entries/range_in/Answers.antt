use Rattle.std.proofs.Common.{arith}
use Rattle.board.proofs.Ranges.{range_in-short, range_in-long}
use Rattle.board.proofs.entries.range_in.Goals as goal
use Rattle.std.proofs.Common.{sym}

pub returns-in_default : goal.returns-in_default
returns-in_default c = sym (range_in-short _ _ (omega arith))

pub returns-in_default-2 : goal.returns-in_default-2
returns-in_default-2 c = sym (range_in-long _ _ (omega arith))
