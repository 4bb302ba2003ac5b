use Rattle.std.proofs.Common.{string_bytes}
use Rattle.std.proofs.lemmas.Result.{on_ok_weaker}
use Rattle.bundles.proofs.SaidTexts.{comment_said}
use Rattle.bundles.proofs.answer_text.AnswersText.remark.Goals as goal

pub returns-clause-said : goal.returns-clause-said
returns-clause-said c =
    on_ok_weaker c.push_line.result
    (λ e said. comment_said c.args.self.now c.push_line.new.self
    (string_bytes c.in_ok-comment_line.field-0) said e c.in_ok-comment_line.ensures.says)
    c.push_line.ensures.added
