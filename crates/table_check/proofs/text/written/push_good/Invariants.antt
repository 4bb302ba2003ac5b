use Rattle.std.proofs.Common.{◌≡◌, ◌++◌, string_bytes, length}
use Rattle.facts.specs.domain.Sets.{rails_in}
use Rattle.table_check.specs.text.Written.{words_from}
use Rattle.table_check.specs.text.Lines.{name_at}
use Rattle.table_check.proofs.text.written.push_good.Given as goal

abbrev pub invariant-loop-rail : goal.invariant-loop-rail
invariant-loop-rail l =
    string_bytes l.text
    ++ words_from (rails_in l.set) (name_at l.board.rail_names) l.rail (length l.board.rails)
    ≡ string_bytes l.fn.text
    ++ words_from (rails_in l.set) (name_at l.board.rail_names) 0 (length l.board.rails)
