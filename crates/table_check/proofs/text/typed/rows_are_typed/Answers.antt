use Rattle.table_check.proofs.TypedRows.{next_typed}
use Rattle.table_check.proofs.text.typed.rows_are_typed.Goals as goal

pub loop-place-preserved : goal.loop-place-preserved
loop-place-preserved c =
    next_typed c.args.rows.now c.loop-place.place-index c.place-item.result c.place-item.is
    c.loop-place-test.true c.place_is_typed.ensures c.loop-place.invariant
