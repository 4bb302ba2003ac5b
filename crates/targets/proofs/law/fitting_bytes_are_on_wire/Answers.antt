use Rattle.targets.proofs.WireAnswers.{fitting_bytes}
use Rattle.targets.proofs.law.fitting_bytes_are_on_wire.Goals as goal

pub returns : goal.returns
returns c = fitting_bytes c.least_byte_wins.ensures
