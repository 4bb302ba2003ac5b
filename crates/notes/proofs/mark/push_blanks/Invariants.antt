use Rattle.std.proofs.Common.{◌≡◌, ◌++◌, map, length, drop}
use Rattle.std.specs.Prelude.{string_bytes}
use Rattle.std.specs.Str.{chars}
use Rattle.notes.specs.Marks.{blank}
use Rattle.notes.proofs.mark.push_blanks.Given as goal

abbrev pub invariant-loop-c : goal.invariant-loop-c
invariant-loop-c l =
    string_bytes l.mark ++ map blank (drop (length l.yielded) (chars l.before))
    ≡ string_bytes l.fn.mark ++ map blank (chars l.before)
