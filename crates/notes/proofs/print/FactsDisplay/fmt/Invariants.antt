use Rattle.std.proofs.Common.{map, flat_map, take}
use Rattle.std.specs.Prelude.{string_bytes}
use Rattle.std.specs.Fmt.{HasWritten, IsPlainFormatter}
use Rattle.notes.specs.Notes.{noted}
use Rattle.notes.proofs.print.FactsDisplay.fmt.Given as goal

abbrev pub invariant-loop-fact : goal.invariant-loop-fact
invariant-loop-fact g l =
    IsPlainFormatter l.initial.f → HasWritten g.W.Write.write_str_gives l.initial.f
    (flat_map noted (map string_bytes (take l.fact-index l.self.0.now.items))) l.f
