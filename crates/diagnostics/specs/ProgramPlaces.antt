-- The lines of a bundle's program, and the notes on its refusal.
use Rattle.std.specs.Prelude.{ℕ, List, [], None, Option, Some, option_map, slice_get, unwrap_or}
use Rattle.facts.specs.duties.RuleNames.{rule_name}
use Rattle.table_check.specs.checker.Breaches.{rule_of}
use Rattle.table_check.specs.declared.checker.breach.Refusal.{Refusal}
use Rattle.texts.specs.Words.{lines_by_feed}
use Rattle.bundles.specs.Bundles.{Section}
use Rattle.session.specs.SectionTexts.{section_text}
use Rattle.refusal_notes.specs.Refusals.{IsRefusalNote}
use Rattle.notes.specs.declared.note.Note.{Note}

-- the lines of a bundle's program
abbrev pub program_lines : List Section → List (List ℕ)
program_lines sections =
    lines_by_feed (unwrap_or (option_map section_text (slice_get sections 1)) [])

-- the note on a refusal is on the line of its place, and names its rule
abbrev pub IsOnRefusal : List Section → Refusal → Option Note → Type 0
IsOnRefusal sections refusal note =
    IsRefusalNote (program_lines sections) refusal.place
    (Some (rule_name (rule_of refusal.breach))) note

-- where the search gave up, the note is on the line of that place, and names none
abbrev pub IsOnStop : List Section → ℕ → Option Note → Type 0
IsOnStop sections place note = IsRefusalNote (program_lines sections) place None note
