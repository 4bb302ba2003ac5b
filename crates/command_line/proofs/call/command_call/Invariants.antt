use Rattle.std.proofs.Common.{length}
use Rattle.command_line.proofs.call.command_call.Given as goal

abbrev pub decreases-loop-more : goal.decreases-loop-more
decreases-loop-more l = length l.rest
