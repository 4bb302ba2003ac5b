use Rattle.std.proofs.Common.{◌≡◌, rules, string_bytes, Some}
use Rattle.bundles.specs.AnswerTexts.{SaysAnswers}
use Rattle.bundles.specs.AnswerLineTexts.{run_text}
use Rattle.session.specs.PlayReplies.{breach_text}
use Rattle.session.proofs.PlayedRuns.{harm_answers_of, says_breach}
use Rattle.session.proofs.refuting.harm_text.Goals as goal

pub returns : goal.returns
returns c =
    let x = c.args.harm.now in
    let said : SaysAnswers (string_bytes c.into_text.result) (harm_answers_of x) = search rules in
    let prints : string_bytes c.into_text.result
    ≡ run_text (Some (breach_text x.breach)) (harm_answers_of x) = search rules in
    says_breach c.args.sequence.now x (string_bytes c.into_text.result) c.requires said prints
