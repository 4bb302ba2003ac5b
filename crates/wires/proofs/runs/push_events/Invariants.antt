use Rattle.std.proofs.Common.{◌≡◌, ◌≤◌, ◌+◌, ◌++◌, length, vec_len, vec_capacity}
use Rattle.wires.specs.Events.{events_of}
use Rattle.wires.specs.Runs.{levels_in}
use Rattle.wires.proofs.runs.push_events.Given as goal

abbrev pub invariant-loop-rest : goal.invariant-loop-rest
invariant-loop-rest l = record {
  events :
      l.events.items ++ events_of (levels_in l.rest)
      ≡ l.fn.events.items ++ events_of (levels_in l.runs);
  room : vec_len l.events + length l.rest ≤ vec_capacity l.events;
}

abbrev pub decreases-loop-rest : goal.decreases-loop-rest
decreases-loop-rest l = length l.rest
