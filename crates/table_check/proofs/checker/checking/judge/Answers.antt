use Rattle.std.proofs.lemmas.Result.{IfOk-weaker}
use Rattle.table_check.specs.Tables.{rows_view}
use Rattle.table_check.specs.checker.Breaches.{verdict_of}
use Rattle.table_check.specs.checker.SafeTables.{IsSafeVerdict}
use Rattle.table_check.proofs.checker.checking.judge.Goals as goal

pub returns-clause-safe : goal.returns-clause-safe
returns-clause-safe c =
    let b = c.args.board.now in
    let p = c.args.program.now in
    let t = rows_view c.deref.result.now in
    IfOk-weaker c.judgement_on.result _ (λ j. IsSafeVerdict b p (verdict_of j))
    (λ j is. c.inductive_runs_are_safe.ensures.verdicts b p t (verdict_of j)
    c.board_is_valid.ensures c.program_is_valid.ensures is.0) c.judgement_on.ensures
