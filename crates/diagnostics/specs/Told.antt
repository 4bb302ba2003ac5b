-- What a person is told of an input beside the reply: what to mend in it, and what is warned of.
use Rattle.std.specs.Prelude.{◌≡◌, List, ℕ}
use Rattle.session.specs.declared.outcome.Case.{Case}
use Rattle.session.specs.declared.reply.Status.{Status}
use Rattle.session.specs.Cases.{IsCaseIn}
use Rattle.session.specs.Outcomes.{status_of}
use Rattle.session.specs.Parts.{sections_view}
use Rattle.diagnostics.specs.Bounds.{IsBoundOf}
use Rattle.diagnostics.specs.Inputs.{IsErrorOf}
use Rattle.diagnostics.specs.OtherErrors.{AreOthersOf}
use Rattle.diagnostics.specs.Warnings.{AreWarningsOf}
use Rattle.diagnostics.specs.declared.answering.Notes.{Notes}
use Rattle.diagnostics.specs.declared.bound.Beside.{Beside}

-- the notes on an input that was judged
pub record AreNotesOf (beside : Beside) (case : Case) (notes : Notes) : Type 0 where
  pub error : IsErrorOf case.text.now (sections_view case.sections.items) case.outcome notes.error
  pub others : AreOthersOf (sections_view case.sections.items) case.outcome notes.others
  pub warnings : AreWarningsOf (sections_view case.sections.items) case.outcome notes.warnings
  pub bound : IsBoundOf beside (sections_view case.sections.items) case.outcome notes.bound

-- the status and the notes tell one outcome, which is true of the input
pub record IsTold (input : List ℕ) (beside : Beside) (status : Status) (notes : Notes)
    : Type 0 where
  pub case : Case
  pub is_case : IsCaseIn input case
  pub ended : status ≡ status_of case.outcome
  pub told : AreNotesOf beside case notes
