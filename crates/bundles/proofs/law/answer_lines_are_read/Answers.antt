use Rattle.bundles.proofs.AnswerLineLaw.{all_lines, other_lines}
use Rattle.bundles.proofs.law.answer_lines_are_read.Goals as goal

pub returns-clause-read : goal.returns-clause-read
returns-clause-read c = all_lines

pub returns-clause-others : goal.returns-clause-others
returns-clause-others c = other_lines
