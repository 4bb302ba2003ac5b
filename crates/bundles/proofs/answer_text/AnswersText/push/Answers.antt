use Rattle.std.proofs.Common.{string_bytes}
use Rattle.std.proofs.lemmas.Result.{on_ok_weaker}
use Rattle.bundles.proofs.SaidTexts.{answer_said}
use Rattle.bundles.proofs.answer_text.AnswersText.push.Goals as goal

pub returns-clause-said : goal.returns-clause-said
returns-clause-said c =
    on_ok_weaker c.push_line.result
    (λ e said. answer_said c.args.self.now c.push_line.new.self
    (string_bytes c.in_ok-said_line.field-0) c.args.answer.now said e
    c.in_ok-said_line.ensures.says) c.push_line.ensures.added
