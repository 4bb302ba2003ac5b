use Rattle.std.proofs.Common.{subst, IfOk, IfSome, IfNone}
use Rattle.smbus.specs.OneFrame.{IsOnlyFrame}
use Rattle.smbus.specs.Shown.{Shown}
use Rattle.smbus.proofs.single.only_frame_in.Goals as goal

pub returns-clause-some : goal.returns-clause-some
returns-clause-some c =
    subst (λ es. IfOk c.frame_in.result (λ found. IfSome found (IsOnlyFrame es)))
    c.runs.ensures.events c.frame_in.ensures.some

pub returns-clause-none : goal.returns-clause-none
returns-clause-none c =
    subst (λ es. IfOk c.frame_in.result
    (λ found. IfNone found ((frame : Shown) → IsOnlyFrame es frame → ⊥))) c.runs.ensures.events
    c.frame_in.ensures.none
