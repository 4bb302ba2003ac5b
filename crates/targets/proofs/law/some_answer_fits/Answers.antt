use Rattle.targets.proofs.SomeAnswerLaw.{messages, silence}
use Rattle.targets.proofs.OneBoard.{some_case}
use Rattle.targets.proofs.law.some_answer_fits.Goals as goal

pub returns-clause-messages : goal.returns-clause-messages
returns-clause-messages c = messages c.least_byte_wins.ensures

pub returns-clause-silence : goal.returns-clause-silence
returns-clause-silence c = silence

pub returns-clause-case : goal.returns-clause-case
returns-clause-case c = some_case
