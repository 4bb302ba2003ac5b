use Rattle.std.proofs.Common.{subst, sym}
use Rattle.bundles.specs.AnswerTexts.{SaysAnswers}
use Rattle.session.proofs.playing.whole_text.Goals as goal

pub returns-in_ok-remark-in-Running-2-clause-said :
    goal.returns-in_ok-remark-in-Running-2-clause-said
returns-in_ok-remark-in-Running-2-clause-said c = λ said says.
    subst (λ text. SaysAnswers text said) (sym c.into_text.ensures)
    (c.in_ok-remark-in-Running-2.ensures.said said says)
