use Rattle.std.proofs.Common.{ℕ, ◌<◌, IsTrue}
use Rattle.wires.specs.Bits.{bit}
use Rattle.targets.specs.Alerting.{MayAlert}
use Rattle.targets.proofs.alerting.may_all_alert.Given as goal

-- those before this one may
abbrev pub invariant-loop-index : goal.invariant-loop-index
invariant-loop-index l = (i : ℕ) → i < l.index → IsTrue (bit l.alerts i) → MayAlert l.board i
