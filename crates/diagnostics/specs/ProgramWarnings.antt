-- What is warned of an accepted program, and comments that allow it.
use Rattle.std.specs.Prelude.{◌≡◌, ◌&&◌, ℕ, Bool, false, List, [], ◌∷◌, Option, Some, None}
use Rattle.std.specs.Prelude.{All, codes, if◌then◌else◌, map, unwrap_or}
use Rattle.std.specs.List.{filter_map, list_any}
use Rattle.std.specs.Str.{bytes_eq}
use Rattle.texts.specs.Cuts.{comment_in}
use Rattle.texts.specs.Words.{words_of}
use Rattle.board.specs.Boards.{Board}
use Rattle.bundles.specs.Bundles.{Section}
use Rattle.seq_program.specs.declared.instr.Instr.{Instr}
use Rattle.table_check.specs.declared.checker.breach.Judgement.{Judgement}
use Rattle.table_check.specs.declared.checker.breach.Judgement.TheVariants.{Accepted, Refused}
use Rattle.table_check.specs.Tables.{Table, table_view}
use Rattle.program_lints.specs.LintNames.{lint_name, lint_place}
use Rattle.program_lints.specs.Lints.{Lints, AreLints}
use Rattle.program_lints.specs.declared.lint.ProgramLint.{ProgramLint}
use Rattle.notes.specs.Lines.{line_at}
use Rattle.notes.specs.Notes.{IsOn}
use Rattle.notes.specs.declared.level.Level.TheVariants.{Warning}
use Rattle.notes.specs.declared.note.Note.{Note}
use Rattle.seq_program.specs.Places.{place_line}
use Rattle.session.specs.declared.outcome.Judged.{Judged}
use Rattle.diagnostics.specs.ProgramPlaces.{program_lines}

-- the words of a comment allow what has this name: `# allow NAME ..`
abbrev pub allows : List (List ℕ) → List ℕ → Bool
allows [] name = false
allows (first ∷ names) name = bytes_eq first (codes "allow") && list_any (bytes_eq name) names

abbrev pub is_allowed : List ℕ → List ℕ → Bool
is_allowed line name = allows (words_of (comment_in line)) name

-- the number of the line, if its comment doesn't allow the lint
abbrev pub warned_number : ℕ → Option (List ℕ) → ProgramLint → Option ℕ
warned_number number line lint =
    if is_allowed (unwrap_or line []) (lint_name lint) then None else Some number

-- the line of a lint's place, or the first where that isn't found
abbrev pub lint_line : List (List ℕ) → ProgramLint → ℕ
lint_line lines lint = unwrap_or (place_line (lint_place lint) lines) 1

abbrev pub warned_line : List (List ℕ) → ProgramLint → Option ℕ
warned_line lines lint =
    warned_number (lint_line lines lint) (line_at (lint_line lines lint) lines) lint

-- a warning on its line of a program
abbrev pub IsProgramWarning : List (List ℕ) → Note → Type 0
IsProgramWarning lines note = IsOn Warning (codes "%program") note.line lines note

-- each lint that isn't allowed has a warning, on the line of its place
pub record AreToldOf (lines : List (List ℕ)) (lints : Lints) (warnings : List Note)
    : Type 0 where
  pub warn : All (IsProgramWarning lines) warnings
  pub told : map (λ n. n.line) warnings ≡ filter_map (warned_line lines) lints

-- the lints of a program with a table
pub record WarnsOfProgram (lines : List (List ℕ)) (b : Board) (p : List Instr) (t : Table)
    (warnings : List Note) : Type 0 where
  pub lints : Lints
  pub are_lints : AreLints b p t lints
  pub each : AreToldOf lines lints warnings

-- only a program that is accepted has warnings
abbrev pub WarnsOfJudgement : List Section → Board → List Instr → Table → Judgement → List Note
    → Type 0
WarnsOfJudgement sections b p t (Accepted bound) warnings =
    WarnsOfProgram (program_lines sections) b p t warnings
WarnsOfJudgement sections b p t (Refused r) warnings = warnings ≡ []

abbrev pub WarnsOfJudged : List Section → Board → List Instr → Option Judged → List Note → Type 0
WarnsOfJudged sections b p None warnings = warnings ≡ []
WarnsOfJudged sections b p (Some judged) warnings =
    WarnsOfJudgement sections b p (table_view judged.table) judged.judgement warnings
