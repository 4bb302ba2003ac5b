use Rattle.std.proofs.Common.{arith}
use Rattle.targets.proofs.Bits.{bit_without_same, bit_without_other}
use Rattle.targets.proofs.step.without.Goals as goal

pub returns-clause-same : goal.returns-clause-same
returns-clause-same c = bit_without_same c.args.bits c.args.index c.requires

pub returns-clause-others : goal.returns-clause-others
returns-clause-others c i other =
    bit_without_other c.args.bits c.args.index (omega arith) c.requires i other
