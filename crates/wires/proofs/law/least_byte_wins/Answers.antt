use Rattle.wires.proofs.LeastByte.{least_byte_wins}
use Rattle.wires.proofs.law.least_byte_wins.Goals as goal

pub returns : goal.returns
returns c = least_byte_wins
