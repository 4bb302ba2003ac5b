use Rattle.bundles.proofs.CheckedLines.{rest_are_answers}
use Rattle.bundles.proofs.answer_list.AnswerLines.next.Goals as goal

pub invariant_of-self : goal.invariant_of-self
invariant_of-self c = rest_are_answers _ _ _ c.in-Some.ensures.first c.self.invariant
