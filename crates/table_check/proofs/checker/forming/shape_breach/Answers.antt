use Rattle.std.proofs.Common.{◌+◌}
use Rattle.table_check.specs.Tables.{row_of, rows_view}
use Rattle.table_check.specs.checker.Looking.{shape_at, fault_in}
use Rattle.table_check.specs.checker.Obligations.{shapes}
use Rattle.table_check.proofs.Firsts.{leaves_fault, leaves_rest}
use Rattle.table_check.proofs.Parts.{shapes_from, shapes_next}
use Rattle.table_check.proofs.checker.forming.shape_breach.Goals as goal

pub returns-in-Some-clause-first : goal.returns-in-Some-clause-first
returns-in-Some-clause-first c = λ p.
    let t = rows_view c.args.rows.now in
    let n = c.loop-place.place in
    leaves_fault c.args.board.now p t (shapes 0 t) (shapes_from t n) (shape_at n (row_of t n))
    (shapes_from t (n + 1)) (fault_in c.in-Some.refusal) (c.loop-place.invariant p)
    (shapes_next t n) (c.in-Some.ensures.first p)

pub loop-place-preserved : goal.loop-place-preserved
loop-place-preserved c = λ p.
    let t = rows_view c.args.rows.now in
    let n = c.loop-place.place in
    leaves_rest c.args.board.now p t (shapes 0 t) (shapes_from t n) (shape_at n (row_of t n))
    (shapes_from t (n + 1)) (c.loop-place.invariant p) (shapes_next t n)
    (c.in_default.ensures.first p)
