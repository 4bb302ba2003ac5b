-- The note on the bound of a program that is accepted.
use Rattle.std.specs.Prelude.{◌≡◌, List, Option, None, MatchResult}
use Rattle.bundles.specs.Bundles.{Section}
use Rattle.notes.specs.declared.note.Note.{Note}
use Rattle.session.specs.declared.outcome.Outcome.{Outcome}
use Rattle.session.specs.declared.outcome.Outcome.TheVariants as outcomes
use Rattle.table_check.specs.declared.checker.breach.Judgement.{Judgement}
use Rattle.table_check.specs.declared.checker.breach.Judgement.TheVariants as judgements
use Rattle.diagnostics.specs.declared.bound.Beside.{Beside}
use Rattle.diagnostics.specs.declared.bound.Beside.TheVariants as beside
use Rattle.diagnostics.specs.ProgramPlaces.{program_lines}
use Rattle.refusal_notes.specs.Bounds.{IsBoundNote}

-- on the line of the first instruction, where it accepts, and it tells that bound
abbrev pub IsBoundOfJudgement : List Section → Judgement → Option Note → Type 0
IsBoundOfJudgement sections (judgements.Accepted bound) note =
    IsBoundNote (program_lines sections) bound note
IsBoundOfJudgement sections (judgements.Refused refusal) note = note ≡ None

-- only of a program that was to be verified
abbrev pub IsBoundIn : List Section → Outcome → Option Note → Type 0
IsBoundIn sections (outcomes.Unread x) note = note ≡ None
IsBoundIn sections (outcomes.Framed x) note = note ≡ None
IsBoundIn sections (outcomes.Ran x) note = note ≡ None
IsBoundIn sections (outcomes.Checked x) note = note ≡ None
IsBoundIn sections (outcomes.Searched x) note = note ≡ None
IsBoundIn sections (outcomes.Verified x) note =
    MatchResult x.judged (λ judged. IsBoundOfJudgement sections judged.judgement note)
    (λ place. note ≡ None)
IsBoundIn sections (outcomes.Played x) note = note ≡ None
IsBoundIn sections (outcomes.Refuted x) note = note ≡ None
IsBoundIn sections (outcomes.Drafted x) note = note ≡ None

-- and where it is asked for
abbrev pub IsBoundOf : Beside → List Section → Outcome → Option Note → Type 0
IsBoundOf beside.Nothing sections outcome note = note ≡ None
IsBoundOf beside.Bound sections outcome note = IsBoundIn sections outcome note
