use Rattle.std.proofs.Common.{ap, ◌∙◌}
use Rattle.wires.specs.Events.{events_of}
use Rattle.wires.specs.Runs.{levels_in}
use Rattle.wires.proofs.RunEvents.{events_of-levels}
use Rattle.wires.proofs.runs.Runs.runs.Goals as goal

pub returns-clause-events : goal.returns-clause-events
returns-clause-events c =
    ap (λ runs. events_of (levels_in runs)) c.deref.ensures.value
    ∙ events_of-levels c.self.inside.runs.items c.self.invariant.rising
    ∙ ap events_of c.self.view_is
