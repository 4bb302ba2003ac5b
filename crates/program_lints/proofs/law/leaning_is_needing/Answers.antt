use Rattle.program_lints.proofs.Needing.{leaning_is_needing}
use Rattle.program_lints.proofs.law.leaning_is_needing.Goals as goal

pub returns : goal.returns
returns c = leaning_is_needing
