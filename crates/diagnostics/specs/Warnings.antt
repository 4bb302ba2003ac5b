-- What is warned of: the lints of a board and of an accepted program, and the first instruction of
-- a run that breaks a rule.
use Rattle.std.specs.Prelude.{◌≡◌, ℕ, List, [], Option, Some, None, MatchOption, IsSomeAnd, All}
use Rattle.std.specs.Prelude.{Result, Ok, Err, length, option_map, slice_get, unwrap_or}
use Rattle.board.specs.Boards.{Board}
use Rattle.seq_program.specs.declared.instr.Instr.{Instr}
use Rattle.board_lints.specs.Lints.{Lints, AreLints}
use Rattle.run_monitor.specs.declared.breach.Breach.{Breach}
use Rattle.run_monitor.specs.declared.breach.Reached.{Reached}
use Rattle.bundles.specs.Bundles.{Section}
use Rattle.session.specs.declared.outcome.Judged.{Judged}
use Rattle.session.specs.declared.outcome.Outcome.{Outcome}
use Rattle.session.specs.declared.outcome.Outcome.TheVariants as outcomes
use Rattle.notes.specs.declared.level.Level.TheVariants.{Warning}
use Rattle.notes.specs.declared.note.Note.{Note}
use Rattle.session.specs.SectionTexts.{section_text}
use Rattle.texts.specs.Words.{lines_by_feed}
use Rattle.diagnostics.specs.LabelWarnings.{WarnsOfLabels}
use Rattle.diagnostics.specs.ProgramPlaces.{program_lines}
use Rattle.refusal_notes.specs.Refusals.{IsBreachNote}
use Rattle.text_notes.specs.Boards.{IsOnBoardLine}
use Rattle.diagnostics.specs.ProgramWarnings.{WarnsOfJudged}
use Rattle.diagnostics.specs.declared.warning.Warnings.{Warnings}

-- the lines of a bundle's board
abbrev pub board_lines : List Section → List (List ℕ)
board_lines sections =
    lines_by_feed (unwrap_or (option_map section_text (slice_get sections 0)) [])

-- each lint of a board and a program on it has a warning, on a line of the board
pub record WarnsOfBoard (sections : List Section) (b : Board) (p : List Instr)
    (warnings : List Note) : Type 0 where
  pub lines : All (IsOnBoardLine Warning (board_lines sections)) warnings
  pub lints : Lints
  pub are_lints : AreLints b p lints
  pub each : length warnings ≡ length lints

-- a breach has a warning on the line of its place, which names its rule, and without one there is
-- none
abbrev pub WarnsOfBreach : List Section → Option Breach → Option Note → Type 0
WarnsOfBreach sections found note =
    MatchOption found (note ≡ None)
    (λ x. IsSomeAnd note (IsBreachNote (program_lines sections) x.place x.rule))

-- what is warned of a board, a program on it, the judgement on that, and a run that breaks a rule
pub record WarnsOf (sections : List Section) (b : Board) (p : List Instr) (judged : Option Judged)
    (found : Option Reached) (warnings : Warnings) : Type 0 where
  pub board : WarnsOfBoard sections b p warnings.of_board.items
  pub program : WarnsOfJudged sections b p judged warnings.of_program.items
  pub labels : WarnsOfLabels sections judged warnings.of_labels.items
  pub run : WarnsOfBreach sections (option_map (λ x. x.breach) found) warnings.of_run

-- nothing is warned of
pub record WarnsOfNothing (warnings : Warnings) : Type 0 where
  pub board : warnings.of_board.items ≡ []
  pub program : warnings.of_program.items ≡ []
  pub labels : warnings.of_labels.items ≡ []
  pub run : warnings.of_run ≡ None

-- the judgement on a table, if it is one
abbrev pub judged_in : Result Judged ℕ → Option Judged
judged_in (Ok judged) = Some judged
judged_in (Err stopped) = None

-- what became of an input has a board and a program, or nothing is warned of
abbrev pub AreWarningsOf : List Section → Outcome → Warnings → Type 0
AreWarningsOf sections (outcomes.Unread x) warnings = WarnsOfNothing warnings
AreWarningsOf sections (outcomes.Framed x) warnings = WarnsOfNothing warnings
AreWarningsOf sections (outcomes.Ran x) warnings =
    WarnsOf sections x.scenario.board x.scenario.program None x.found warnings
AreWarningsOf sections (outcomes.Checked x) warnings =
    WarnsOf sections x.trial.board x.trial.program (judged_in x.judged) None warnings
AreWarningsOf sections (outcomes.Searched x) warnings =
    WarnsOf sections x.sequence.board x.sequence.program None None warnings
AreWarningsOf sections (outcomes.Verified x) warnings =
    WarnsOf sections x.sequence.board x.sequence.program (judged_in x.judged) None warnings
AreWarningsOf sections (outcomes.Played x) warnings =
    WarnsOf sections x.sequence.board x.sequence.program None None warnings
AreWarningsOf sections (outcomes.Refuted x) warnings =
    WarnsOf sections x.sequence.board x.sequence.program None None warnings
AreWarningsOf sections (outcomes.Drafted x) warnings = WarnsOfNothing warnings
