use Rattle.table_check.specs.Tables.{table_view}
use Rattle.table_check.proofs.Texts.TextLaws.{text_written, reads_written}
use Rattle.table_check.proofs.text.writing.write_table.Goals as goal

pub returns-clause-text : goal.returns-clause-text
returns-clause-text c =
    text_written c.args.board.now (table_view c.args.table.now) c.written.result c.written.ensures

pub returns-clause-read : goal.returns-clause-read
returns-clause-read c =
    reads_written c.lines_read_back.ensures c.args.board.now
    (table_view c.args.table.now) c.written.result
    c.is_board.ensures c.requires c.is_typed.ensures c.written.ensures
