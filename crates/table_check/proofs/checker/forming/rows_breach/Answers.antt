use Rattle.std.proofs.Common.{[], ◌∷◌}
use Rattle.std.specs.Prelude.{option_map}
use Rattle.table_check.specs.Tables.{rows_view}
use Rattle.table_check.specs.checker.Looking.{fault_in}
use Rattle.table_check.specs.checker.Obligations.{Start, shapes}
use Rattle.table_check.proofs.Firsts.{front, back}
use Rattle.table_check.proofs.checker.forming.rows_breach.Goals as goal

pub returns-in-Some-clause-first : goal.returns-in-Some-clause-first
returns-in-Some-clause-first c = λ p.
    front c.args.board.now p (rows_view c.args.rows.now) (shapes 0 (rows_view c.args.rows.now))
    (Start ∷ []) (fault_in c.in-Some.refusal) (c.in-Some.ensures.first p)

pub returns-in-None-clause-first : goal.returns-in-None-clause-first
returns-in-None-clause-first c = λ p.
    back c.args.board.now p (rows_view c.args.rows.now) (shapes 0 (rows_view c.args.rows.now))
    (Start ∷ []) (option_map fault_in c.start_breach.result) (c.in-None.ensures.first p)
    (c.start_breach.ensures.first p)
