use Rattle.run_notes.proofs.FoundAnswers.{found}
use Rattle.run_notes.proofs.law.answers_are_found.Goals as goal

pub returns : goal.returns
returns c = record { found = found }
