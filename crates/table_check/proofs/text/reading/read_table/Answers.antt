use Rattle.std.proofs.Common.{arith}
use Rattle.texts.specs.Words.{lines_by_feed}
use Rattle.table_check.proofs.Texts.ReadClauses.{ok_of, all_of, bad_of}
use Rattle.table_check.proofs.Texts.FewLines.{few_lines}
use Rattle.table_check.proofs.Texts.Known.{known}
use Rattle.table_check.proofs.text.reading.read_table.Goals as goal

pub returns-clause-ok : goal.returns-clause-ok
returns-clause-ok c =
    ok_of (known c.numbers_read_back.ensures.pair c.numbers_are_spelled.ensures.pair
    c.numbers_read_back.ensures.decimal c.numbers_are_spelled.ensures.decimal)
    c.args.board.now (lines_by_feed c.args.text.now) c.table_in.result c.is_board.ensures
    (omega (arith, few_lines c.args.text.now)) c.table_in.ensures

pub returns-clause-all : goal.returns-clause-all
returns-clause-all c =
    all_of (known c.numbers_read_back.ensures.pair c.numbers_are_spelled.ensures.pair
    c.numbers_read_back.ensures.decimal c.numbers_are_spelled.ensures.decimal)
    c.args.board.now (lines_by_feed c.args.text.now) c.table_in.result
    c.is_board.ensures c.table_in.ensures

pub returns-clause-bad : goal.returns-clause-bad
returns-clause-bad c =
    bad_of (known c.numbers_read_back.ensures.pair c.numbers_are_spelled.ensures.pair
    c.numbers_read_back.ensures.decimal c.numbers_are_spelled.ensures.decimal)
    c.args.board.now (lines_by_feed c.args.text.now) c.table_in.result
    c.is_board.ensures (omega (arith, few_lines c.args.text.now)) c.table_in.ensures
