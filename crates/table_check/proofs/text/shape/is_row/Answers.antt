use Rattle.table_check.proofs.Texts.WritableRows.{shaped_row}
use Rattle.table_check.proofs.text.shape.is_row.Goals as goal

pub returns : goal.returns
returns c =
    shaped_row c.args.board.now c.args.row.now c.is_shaped_by_part.result
    c.is_sized.ensures c.is_shaped_by_part.ensures
