use Rattle.std.proofs.Common.{◌≡◌, ◌++◌, drop, string_bytes}
use Rattle.wires.specs.Marks.{marks_text}
use Rattle.wires.specs.Drawing.{run_marks}
use Rattle.wires.proofs.wave.steps.push_runs.Given as goal

abbrev pub invariant-loop-run : goal.invariant-loop-run
invariant-loop-run l =
    string_bytes l.text ++ marks_text (run_marks l.start l.before (drop l.run-index l.runs))
    ≡ string_bytes l.initial.text ++ marks_text (run_marks l.start l.initial.before l.runs)
