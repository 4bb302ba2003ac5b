use Rattle.std.proofs.Common.{rules, ◌≡◌, ℕ, List, None, arith, length, string_bytes, subst}
use Rattle.bundles.specs.AnswerTexts.{SaysAnswers}
use Rattle.bundles.specs.AnswerLineTexts.{run_text}
use Rattle.session.specs.PlayReplies.{SaysRun, with_ending}
use Rattle.session.proofs.PlayedRuns.{answers_of, ok_by, says_run}
use Rattle.session.proofs.playing.play_text.Goals as goal

pub returns : goal.returns
returns c =
    let s = c.args.sequence.now in
    let x = c.in_ok-run.run' in
    let count : c.len.result ≡ length x.answers.items = omega (arith, c.len.ensures) in
    let front : c.in_ok-text.text ≡ run_text None (answers_of x) = search rules in
    let told : SaysAnswers c.in_ok-text.text (answers_of x) = search rules in
    ok_by c.whole_text.result _ _ (λ text. SaysRun s (string_bytes text))
    (λ text prints says. says_run s x (string_bytes text) c.in_ok-run.ensures
    (says (answers_of x) told)
    (subst (λ (n : ℕ). string_bytes text ≡ with_ending (run_text None (answers_of x)) x.ended n)
    count (subst (λ (t : List ℕ). string_bytes text ≡ with_ending t x.ended c.len.result) front
    prints)))
    c.whole_text.ensures.text c.whole_text.ensures.said
