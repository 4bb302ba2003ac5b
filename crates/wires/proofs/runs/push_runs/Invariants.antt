use Rattle.std.proofs.Common.{◌++◌, drop}
use Rattle.wires.specs.Runs.{samples_of}
use Rattle.wires.proofs.RunJoins.{Joining}
use Rattle.wires.proofs.runs.push_runs.Given as goal

abbrev pub invariant-loop-run : goal.invariant-loop-run
invariant-loop-run l =
    Joining (samples_of l.initial.runs.items ++ samples_of l.later) l.runs.items l.before
    (drop l.run-index l.later)
