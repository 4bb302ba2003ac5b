use Rattle.std.proofs.Common.{ap, ◌∙◌, ◌++◌}
use Rattle.wires.specs.Events.{events_of}
use Rattle.wires.specs.Runs.{levels_in}
use Rattle.wires.proofs.runs.events_of.Goals as goal

pub returns : goal.returns
returns c =
    c.push_events.ensures
    ∙ ap (λ l. l ++ events_of (levels_in c.runs-runs.result.now)) c.in_ok-events.ensures.items
    ∙ c.runs-runs.ensures.events
