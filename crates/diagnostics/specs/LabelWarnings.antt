-- Labels of an accepted program to which no line jumps.
use Rattle.std.specs.Prelude.{◌≡◌, ◌==◌, ◌++◌, ◌∷◌, ⊤, ℕ, zero, suc, List, [], Option, Some, None}
use Rattle.std.specs.Prelude.{All, IsSomeAnd, codes, drop, if◌then◌else◌, length, map, string_bytes}
use Rattle.std.specs.Prelude.{take, unwrap_or}
use Rattle.std.specs.Fmt.{decimal}
use Rattle.std.specs.List.{filter_map, last_or}
use Rattle.bundles.specs.Bundles.{Section}
use Rattle.program_lints.specs.UnusedLabels.{unused_labels}
use Rattle.table_check.specs.declared.checker.breach.Judgement.{Judgement}
use Rattle.table_check.specs.declared.checker.breach.Judgement.TheVariants.{Accepted, Refused}
use Rattle.notes.specs.Lines.{line_at}
use Rattle.notes.specs.declared.note.Note.{Note}
use Rattle.session.specs.declared.outcome.Judged.{Judged}
use Rattle.diagnostics.specs.ProgramPlaces.{program_lines}
use Rattle.diagnostics.specs.ProgramWarnings.{IsProgramWarning, is_allowed}

-- the number of a label's line, if its comment doesn't allow that nothing jumps there
abbrev pub unused_number : ℕ → Option (List ℕ) → Option ℕ
unused_number number line =
    if is_allowed (unwrap_or line []) (codes "unused-label") then None else Some number

abbrev pub unused_line : List (List ℕ) → ℕ → Option ℕ
unused_line lines number = unused_number number (line_at number lines)

-- so many labels are warned of by themselves at most
abbrev pub most_labels : ℕ
most_labels = 20

-- a warning on each of these lines
pub record AreOnLines (lines : List (List ℕ)) (numbers : List ℕ) (warnings : List Note)
    : Type 0 where
  pub warn : All (IsProgramWarning lines) warnings
  pub on : map (λ n. n.line) warnings ≡ numbers

-- the second warnings are on each lines that the first are on
abbrev pub StayOnLines : List Note → List Note → Type 0
StayOnLines old new =
    (lines : List (List ℕ)) (numbers : List ℕ) → AreOnLines lines numbers old
    → AreOnLines lines numbers new

abbrev pub more_labels : ℕ → List ℕ
more_labels count =
    if count == 1 then codes "no line jumps to 1 more label below"
    else codes "no line jumps to " ++ (decimal count ++ codes " more labels below")

-- where there are more labels, the last warning tells how many
abbrev pub TellMore : ℕ → List Note → Type 0
TellMore zero warnings = ⊤
TellMore (suc more) warnings =
    IsSomeAnd (last_or None warnings)
    (λ n. map string_bytes n.facts.items ≡ more_labels (suc more) ∷ [])

-- of labels on these lines the first have a warning each, and the others are counted
pub record AreLinesTold (lines : List (List ℕ)) (numbers : List ℕ) (warnings : List Note)
    : Type 0 where
  pub first : AreOnLines lines (take most_labels numbers) warnings
  pub more : TellMore (length (drop most_labels numbers)) warnings

-- so are those to which no line jumps, and no comment allows it
abbrev pub AreLabelsTold : List (List ℕ) → List Note → Type 0
AreLabelsTold lines warnings =
    AreLinesTold lines (filter_map (unused_line lines) (unused_labels lines)) warnings

abbrev pub WarnsOfLabelsIn : List Section → Judgement → List Note → Type 0
WarnsOfLabelsIn sections (Accepted bound) warnings =
    AreLabelsTold (program_lines sections) warnings
WarnsOfLabelsIn sections (Refused r) warnings = warnings ≡ []

-- only a program that is accepted has such warnings
abbrev pub WarnsOfLabels : List Section → Option Judged → List Note → Type 0
WarnsOfLabels sections None warnings = warnings ≡ []
WarnsOfLabels sections (Some judged) warnings =
    WarnsOfLabelsIn sections judged.judgement warnings
