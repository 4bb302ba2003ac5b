-- An input that was judged.
use Rattle.std.specs.Prelude.{◌≡◌, ℕ, Bool, List, [], Err, MatchResult, length, nat_lt, take}
use Rattle.std.specs.Str.Lossy.{utf8_valid_len}
use Rattle.bundles.specs.declared.fault.BundleFault.{BundleFault}
use Rattle.session.specs.declared.fault.InputFault.TheVariants as faults
use Rattle.session.specs.declared.outcome.Case.{Case}
use Rattle.session.specs.Commands.{task_in}
use Rattle.session.specs.Outcomes.{IsOutcomeOf}
use Rattle.session.specs.Parts.{sections_in, sections_view}
use Rattle.session.specs.Intake.{kept_limit}
use Rattle.session.specs.Sessions.{kept_text}

-- the longest beginning of an input that is text
abbrev pub text_front : List ℕ → List ℕ
text_front input = take (utf8_valid_len input) input

-- the text of a bundle, its sections, and what became of it
pub record IsTextCase (read : List ℕ) (case : Case) : Type 0 where
  pub text : case.text.now ≡ read
  pub sections : sections_view case.sections.items ≡ sections_in read
  pub outcome : IsOutcomeOf (task_in read) case.outcome

-- an input that is no text, as far as it is
pub record IsBytesCase (input : List ℕ) (fault : BundleFault) (case : Case) : Type 0 where
  pub text : case.text.now ≡ text_front input
  pub sections : case.sections.items ≡ []
  pub outcome : IsOutcomeOf (Err (faults.Bundle fault)) case.outcome

-- what became of the bytes that are kept of an input
abbrev pub IsCaseOf : List ℕ → Bool → Case → Type 0
IsCaseOf bytes too_large case =
    MatchResult (kept_text bytes too_large) (λ text. IsTextCase text case)
    (λ fault. IsBytesCase bytes fault case)

-- and of a whole input
abbrev pub IsCaseIn : List ℕ → Case → Type 0
IsCaseIn input case =
    IsCaseOf (take kept_limit input) (nat_lt kept_limit (length input)) case
