use Rattle.std.proofs.Common.{take}
use Rattle.std.specs.Prelude.{string_bytes}
use Rattle.simulator.specs.TraceTexts.{AreLines}
use Rattle.simulator.proofs.trace.lines_of.Given as goal

abbrev pub invariant-loop-entry : goal.invariant-loop-entry
invariant-loop-entry l = AreLines (take l.entry-index l.entries) (string_bytes l.text)
