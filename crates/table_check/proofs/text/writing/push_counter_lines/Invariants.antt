use Rattle.std.proofs.Common.{◌≡◌, ◌++◌, drop, string_bytes}
use Rattle.table_check.specs.text.Lines.{each_at, counter_words}
use Rattle.table_check.specs.text.Written.{text_of}
use Rattle.table_check.proofs.text.writing.push_counter_lines.Given as goal

abbrev pub invariant-loop-counter : goal.invariant-loop-counter
invariant-loop-counter l =
    string_bytes l.text
    ++ text_of (each_at counter_words l.counter (drop l.counter l.spans))
    ≡ string_bytes l.fn.text ++ text_of (each_at counter_words 0 l.spans)
