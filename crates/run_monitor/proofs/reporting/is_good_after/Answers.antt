use Rattle.std.proofs.Common.{Bool, not, sym, subst}
use Rattle.std.specs.Prelude.{Some}
use Rattle.run_monitor.specs.Telling.{TellsAfter}
use Rattle.run_monitor.proofs.StepReports.{reports_it, says_nothing, stays_unknown}
use Rattle.run_monitor.proofs.reporting.is_good_after.Goals as goal

pub returns-in-Some : goal.returns-in-Some
returns-in-Some c =
    reports_it c.args.board.now c.args.state.now c.args.index c.in-Some.word c.args.message.now
    c.args.answer.now c.args.was_good c.reported_good.result c.in-Some.ensures.some
    c.reported_good.ensures.value

pub returns-then-was_good : goal.returns-then-was_good
returns-then-was_good c =
    let P : Bool → Type 0 = λ was. TellsAfter c.args.board.now c.args.state.now
    (Some c.args.message.now) c.args.answer.now c.args.index was (not c.is_withdrawn.result) in
    subst P (sym c.if-was_good.true)
    (says_nothing c.args.board.now c.args.state.now c.args.index c.args.message.now
    c.args.answer.now c.is_withdrawn.result c.in-None.ensures.none c.is_withdrawn.ensures)

pub returns-else-was_good : goal.returns-else-was_good
returns-else-was_good c =
    let P : Bool → Type 0 = λ was. TellsAfter c.args.board.now c.args.state.now
    (Some c.args.message.now) c.args.answer.now c.args.index was was in
    subst P (sym c.if-was_good.false)
    (stays_unknown c.args.board.now c.args.state.now c.args.index c.args.message.now
    c.args.answer.now c.in-None.ensures.none)
