use Rattle.std.proofs.Common.{◌≡◌, ◌++◌, drop, map, string_bytes}
use Rattle.facts.specs.domain.Sets.{values_in}
use Rattle.table_check.specs.text.Lines.{each_at, set_words}
use Rattle.table_check.specs.text.Written.{text_of}
use Rattle.table_check.proofs.text.writing.push_set_lines.Given as goal

abbrev pub invariant-loop-target : goal.invariant-loop-target
invariant-loop-target g l =
    string_bytes l.text ++ text_of (each_at (set_words l.key l.board) l.target
    (map (values_in g.K.Kind.is_value g.K.Kind.place) (drop l.target l.sets)))
    ≡ string_bytes l.fn.text ++ text_of (each_at (set_words l.key l.board) 0
    (map (values_in g.K.Kind.is_value g.K.Kind.place) l.sets))
