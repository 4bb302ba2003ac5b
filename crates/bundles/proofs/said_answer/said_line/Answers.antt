use Rattle.std.proofs.Common.{◌≡◌, ◌∙◌, string_bytes}
use Rattle.std.proofs.lemmas.Result.{IfOk-weaker}
use Rattle.bundles.specs.AnswerLineTexts.{answer_text}
use Rattle.bundles.specs.TextLines.{IsLineOf}
use Rattle.bundles.specs.WrittenWords.{written_line}
use Rattle.bundles.proofs.Numerals.{NumbersReadBack}
use Rattle.bundles.proofs.SaidLines.{is_written, of_text}
use Rattle.bundles.proofs.said_answer.said_line.Goals as goal

pub returns-clause-text : goal.returns-clause-text
returns-clause-text c =
    let answer = c.args.answer.now in
    IfOk-weaker c.written_line.result (λ line. string_bytes line ≡ written_line answer)
    (λ line. string_bytes line ≡ answer_text answer)
    (λ line e. e ∙ is_written answer c.is_typed.ensures c.requires) c.written_line.ensures

pub returns-clause-says : goal.returns-clause-says
returns-clause-says c =
    let answer = c.args.answer.now in
    let reads : NumbersReadBack = record {
      pair = c.numbers_read_back.ensures.pair;
      bytes = c.numbers_read_back.ensures.bytes;
      decimal = c.numbers_read_back.ensures.decimal;
    } in
    IfOk-weaker c.written_line.result (λ line. string_bytes line ≡ written_line answer)
    (λ line. IsLineOf (string_bytes line) answer)
    (λ line e. of_text reads (string_bytes line) answer e c.is_typed.ensures c.requires)
    c.written_line.ensures
