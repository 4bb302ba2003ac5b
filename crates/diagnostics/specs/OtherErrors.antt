-- What is told of the other lines of a program, beside the fault that its reply tells.
use Rattle.std.specs.Prelude.{◌≡◌, ◌-◌, ◌++◌, ◌==◌, ℕ, List, [], All, MatchOption, codes, length}
use Rattle.std.specs.Prelude.{map, take, if◌then◌else◌}
use Rattle.std.specs.Fmt.{decimal}
use Rattle.std.specs.List.{filter_map}
use Rattle.board.specs.Boards.{Board}
use Rattle.bundles.specs.Bundles.{Section}
use Rattle.notes.specs.declared.level.Level.TheVariants.{Error}
use Rattle.notes.specs.declared.note.Note.{Note}
use Rattle.notes.specs.Notes.{IsOn}
use Rattle.seq_program.specs.Faults.{line_of}
use Rattle.seq_program.specs.LineFaults.{other_faults}
use Rattle.session.specs.declared.outcome.Outcome.{Outcome}
use Rattle.session.specs.declared.outcome.Outcome.TheVariants as outcomes
use Rattle.session.specs.declared.unread.Unread.{Unread}
use Rattle.session.specs.declared.unread.Unread.TheVariants as unread
use Rattle.diagnostics.specs.ProgramPlaces.{program_lines}
use Rattle.diagnostics.specs.declared.other_errors.OtherErrors.{OtherErrors}

-- an error on a line of a program
abbrev pub IsError : List (List ℕ) → Note → Type 0
IsError lines note = IsOn Error (codes "%program") note.line lines note

-- a line that counts the lines whose faults aren't told, if there are some
abbrev pub untold_text : ℕ → List ℕ
untold_text count =
    if count == 0 then []
    else if count == 1 then codes "1 more line of the program has a fault\n"
    else decimal count ++ codes " more lines of the program have faults\n"

pub record NoneIsLeft (others : OtherErrors) : Type 0 where
  pub notes : others.notes.items ≡ []
  pub untold : others.untold.0 ≡ 0

-- the first 19 of the other lines that have a fault, each with a note, and how many more there are
pub record AreOthers (b : Board) (line : ℕ) (lines : List (List ℕ)) (others : OtherErrors)
    : Type 0 where
  pub errors : All (IsError lines) others.notes.items
  pub first : map (λ n. n.line) others.notes.items
      ≡ filter_map line_of (take 19 (other_faults b line lines))
  pub more : others.untold.0 ≡ length (other_faults b line lines) - 19

abbrev pub AreOthersOfUnread : List Section → Unread → OtherErrors → Type 0
AreOthersOfUnread sections (unread.Bundle fault) others = NoneIsLeft others
AreOthersOfUnread sections (unread.Board fault) others = NoneIsLeft others
AreOthersOfUnread sections (unread.Program b fault) others =
    MatchOption (line_of fault) (NoneIsLeft others)
    (λ line. AreOthers b line (program_lines sections) others)

-- only a program that can't be read has other lines to mend
abbrev pub AreOthersOf : List Section → Outcome → OtherErrors → Type 0
AreOthersOf sections (outcomes.Unread x) others = AreOthersOfUnread sections x others
AreOthersOf sections (outcomes.Framed x) others = NoneIsLeft others
AreOthersOf sections (outcomes.Ran x) others = NoneIsLeft others
AreOthersOf sections (outcomes.Checked x) others = NoneIsLeft others
AreOthersOf sections (outcomes.Searched x) others = NoneIsLeft others
AreOthersOf sections (outcomes.Verified x) others = NoneIsLeft others
AreOthersOf sections (outcomes.Played x) others = NoneIsLeft others
AreOthersOf sections (outcomes.Refuted x) others = NoneIsLeft others
AreOthersOf sections (outcomes.Drafted x) others = NoneIsLeft others
