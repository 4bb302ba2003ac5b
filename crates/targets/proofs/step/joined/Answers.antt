use Rattle.targets.proofs.Bits.{bit_joined}
use Rattle.targets.proofs.step.joined.Goals as goal

pub returns : goal.returns
returns c i = bit_joined c.args.some c.args.others i
