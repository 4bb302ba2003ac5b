use Rattle.std.proofs.Common.{◌≡◌, ◌++◌, drop, string_bytes}
use Rattle.std.specs.Prelude.{zip}
use Rattle.table_check.specs.text.Lines.{each_at, register_words}
use Rattle.table_check.specs.text.Written.{text_of}
use Rattle.table_check.proofs.text.writing.push_register_lines.Given as goal

abbrev pub invariant-loop-register : goal.invariant-loop-register
invariant-loop-register l =
    string_bytes l.text
    ++ text_of (each_at (register_words l.board) l.register
    (zip (drop l.register l.spans) (drop l.register l.sources)))
    ≡ string_bytes l.fn.text
    ++ text_of (each_at (register_words l.board) 0 (zip l.spans l.sources))
