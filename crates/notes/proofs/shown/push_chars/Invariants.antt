use Rattle.std.proofs.Common.{◌≡◌, ◌++◌, flat_map, length, drop}
use Rattle.std.specs.Prelude.{string_bytes}
use Rattle.std.specs.Str.{chars}
use Rattle.notes.specs.ShownLines.{shown_char}
use Rattle.notes.proofs.shown.push_chars.Given as goal

abbrev pub invariant-loop-c : goal.invariant-loop-c
invariant-loop-c l =
    string_bytes l.text ++ flat_map shown_char (drop (length l.yielded) (chars l.added))
    ≡ string_bytes l.fn.text ++ flat_map shown_char (chars l.added)
