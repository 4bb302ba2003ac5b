-- A note with a mark below a word, if one is known.
use Rattle.std.specs.Prelude.{◌≡◌, ℕ, List, Option, Some, None}
use Rattle.std.specs.Borrow.{Bor}
use Rattle.notes.specs.declared.note.Note.{Note}
use Rattle.notes.specs.Notes.{IsMarked}

-- what stands in the line before the word, and the word
abbrev pub IsMarkedIfSome : Option (Bor (List ℕ) × Bor (List ℕ)) → Note → Note → Type 0
IsMarkedIfSome None old new = new ≡ old
IsMarkedIfSome (Some at) old new = IsMarked at.0.now at.1.now old new
