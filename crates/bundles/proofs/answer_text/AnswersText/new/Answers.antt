use Rattle.std.proofs.Common.{string_bytes}
use Rattle.bundles.proofs.SaidTexts.{start_said}
use Rattle.bundles.proofs.answer_text.AnswersText.new.Goals as goal

pub returns-clause-said : goal.returns-clause-said
returns-clause-said c =
    start_said c.in_ok-text.text c.push_line.new.self (string_bytes c.in_ok-start_line.field-0)
    c.args.pages.now c.args.protects.now c.in_ok-push_line.ensures.added
    c.in_ok-start_line.ensures.says c.in_ok-text.ensures.says
