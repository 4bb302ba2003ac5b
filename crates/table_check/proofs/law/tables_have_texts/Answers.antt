use Rattle.table_check.proofs.Texts.Known.{known}
use Rattle.table_check.proofs.Texts.TextLaws.{one_table, written_back, some_table}
use Rattle.table_check.proofs.law.tables_have_texts.Goals as goal

pub returns-clause-one : goal.returns-clause-one
returns-clause-one c =
    one_table (known c.numbers_read_back.ensures.pair c.numbers_are_spelled.ensures.pair
    c.numbers_read_back.ensures.decimal c.numbers_are_spelled.ensures.decimal)

pub returns-clause-text : goal.returns-clause-text
returns-clause-text c = written_back c.lines_read_back.ensures

pub returns-clause-case : goal.returns-clause-case
returns-clause-case c =
    some_table (known c.numbers_read_back.ensures.pair c.numbers_are_spelled.ensures.pair
    c.numbers_read_back.ensures.decimal c.numbers_are_spelled.ensures.decimal)
    c.lines_read_back.ensures
