use Rattle.std.proofs.Common.{rules, arith}
use Rattle.targets.proofs.Bits.{bits_few}
use Rattle.targets.proofs.alerting.may_all_alert.Goals as goal

pub returns : goal.returns
returns c = (
  λ _ i set.
      let few = bits_few c.args.alerts i (omega arith) set in
      c.loop-index.invariant i (omega arith) set,
  λ _. search rules,
)
