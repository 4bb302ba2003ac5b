use Rattle.std.proofs.Common.{◌≡◌, get_or, arith, option_copied, sym}
use Rattle.bundles.proofs.SaidRuns.{said_none, said_more, said_all}
use Rattle.bundles.proofs.answer_text.AnswersText.of_run.Goals as goal

pub loop-answer-init : goal.loop-answer-init
loop-answer-init c =
    said_none (option_copied c.args.comment) c.args.pages.now c.args.protects.now
    c.args.answers.now c.in_ok-text.text c.in_ok-text.ensures.text c.in_ok-text.ensures.said

pub loop-answer-preserved : goal.loop-answer-preserved
loop-answer-preserved c =
    let i = c.loop-answer.answer-index in
    let a = c.answer-item.result in
    let item : get_or c.args.answers.now i a ≡ a = sym c.answer-item.is in
    said_more (option_copied c.args.comment) c.args.pages.now c.args.protects.now
    c.args.answers.now i c.loop-answer.text c.push.new.self a c.loop-answer.invariant
    (omega (arith, c.loop-answer-test.true)) item c.in_ok-push.ensures.text
    c.in_ok-push.ensures.said

pub returns-clause-text : goal.returns-clause-text
returns-clause-text c =
    (said_all (option_copied c.args.comment) c.args.pages.now c.args.protects.now
    c.args.answers.now c.loop-answer.answer-index c.loop-answer.text c.loop-answer.invariant
    (omega (arith, c.loop-answer-test.false))).0

pub returns-clause-said : goal.returns-clause-said
returns-clause-said c =
    (said_all (option_copied c.args.comment) c.args.pages.now c.args.protects.now
    c.args.answers.now c.loop-answer.answer-index c.loop-answer.text c.loop-answer.invariant
    (omega (arith, c.loop-answer-test.false))).1
