use Rattle.std.proofs.Common.{map, flat_map, take}
use Rattle.std.specs.Prelude.{string_bytes}
use Rattle.std.specs.Fmt.{HasWritten, IsPlainFormatter}
use Rattle.notes.specs.Notes.{helped}
use Rattle.notes.proofs.print.HelpsDisplay.fmt.Given as goal

abbrev pub invariant-loop-help : goal.invariant-loop-help
invariant-loop-help g l =
    IsPlainFormatter l.initial.f → HasWritten g.W.Write.write_str_gives l.initial.f
    (flat_map helped (map string_bytes (take l.help-index l.self.0.now.items))) l.f
