use Rattle.std.proofs.Common.{string_bytes}
use Rattle.session.proofs.Told.{empty_told, run_told}
use Rattle.session.proofs.tracing.run_text.Goals as goal

pub tell_run-requires-clause-empty : goal.tell_run-requires-clause-empty
tell_run-requires-clause-empty c =
    empty_told c.args.telling c.in_ok-report.report c.in_ok-report.ensures

pub returns-clause-text : goal.returns-clause-text
returns-clause-text c =
    run_told c.args.telling c.args.scenario.now c.in_ok-report.report c.tell_run.new.report
    c.in_ok-ended.ended c.in_ok-ended.ticks (string_bytes c.in_ok-whole.field-0)
    c.in_ok-report.ensures c.in_ok-ended.ensures.told c.in_ok-whole.ensures
