use Rattle.std.proofs.Common.{◌↔◌, All, IsTrue, subst}
use Rattle.table_check.specs.text.Shapes.{IsShapedPlace}
use Rattle.table_check.proofs.Texts.WritableRows.{shaped_table}
use Rattle.table_check.proofs.text.shape.shaped.Goals as goal

pub returns : goal.returns
returns c =
    shaped_table c.args.board.now c.args.table.now.rows.items c.are_places.result
    (subst (λ rows. IsTrue c.are_places.result ↔ All (IsShapedPlace c.args.board.now) rows)
    c.deref.ensures.value c.are_places.ensures)
