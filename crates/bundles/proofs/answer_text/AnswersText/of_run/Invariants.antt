use Rattle.std.proofs.Common.{option_copied}
use Rattle.bundles.proofs.SaidRuns.{IsSaidUntil}
use Rattle.bundles.proofs.answer_text.AnswersText.of_run.Given as goal

abbrev pub invariant-loop-answer : goal.invariant-loop-answer
invariant-loop-answer l =
    IsSaidUntil (option_copied l.comment) l.pages l.protects l.answers l.answer-index l.text
