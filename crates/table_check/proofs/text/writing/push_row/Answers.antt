use Rattle.std.proofs.Common.{map, zip}
use Rattle.std.proofs.lemmas.Result.{on_ok_weaker}
use Rattle.facts.specs.domain.Sets.{pages_in, protects_in, rails_in}
use Rattle.table_check.specs.text.Lines.{head_words, good_words, ticks_words, each_at, page_words}
use Rattle.table_check.specs.text.Lines.{protect_words, register_words, counter_words}
use Rattle.table_check.specs.text.Lines.{lost_words, factors}
use Rattle.table_check.specs.declared.text.version.Version.TheVariants.{Second}
use Rattle.table_check.proofs.Texts.RowText.{row_written}
use Rattle.table_check.proofs.text.writing.push_row.Goals as goal

pub returns : goal.returns
returns c =
    let board = c.args.board.now in
    let row = c.args.row.now in
    let pages = rw c.deref.ensures.value at c.in_ok-push_set_lines.ensures in
    let protects = rw c.deref-2.ensures.value at c.in_ok-push_set_lines-2.ensures in
    on_ok_weaker c.push_ticks_line.result
    (row_written _ _ _ _ _ _ _ _ _ (head_words c.args.place) (good_words board (rails_in row.good))
    (lost_words row.lost) (ticks_words row.base (factors Second row.coeffs row.lost_coeff))
    (each_at (page_words board) 0 (map pages_in row.pages.items))
    (each_at (protect_words board) 0 (map protects_in row.protects.items))
    (each_at (register_words board) 0 (zip row.regs row.sources))
    (each_at counter_words 0 row.counters) c.in_ok-push_head.ensures pages protects
    c.in_ok-push_good_line.ensures c.in_ok-push_register_lines.ensures
    c.in_ok-push_counter_lines.ensures c.in_ok-push_lost_line.ensures)
    c.push_ticks_line.ensures
