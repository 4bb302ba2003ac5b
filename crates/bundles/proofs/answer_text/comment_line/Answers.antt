use Rattle.std.proofs.Common.{◌≡◌, string_bytes}
use Rattle.std.proofs.lemmas.Result.{IfOk-weaker}
use Rattle.bundles.specs.AnswerLineTexts.{comment_text}
use Rattle.bundles.specs.TextLines.{IsComment}
use Rattle.bundles.proofs.SaidTexts.{is_comment}
use Rattle.bundles.proofs.answer_text.comment_line.Goals as goal

pub returns-clause-says : goal.returns-clause-says
returns-clause-says c =
    IfOk-weaker c.format.result (λ line. string_bytes line ≡ comment_text c.args.comment.now)
    (λ line. IsComment (string_bytes line))
    (λ line e. is_comment (string_bytes line) c.args.comment.now e c.requires) c.format.ensures.ok
