-- Notes on the places of programs.
use Rattle.std.specs.Prelude.{◌≡◌, ℕ, List, Option, None, MatchOption, IsSomeAnd, codes, unwrap_or}
use Rattle.notes.specs.declared.level.Level.{Level}
use Rattle.notes.specs.declared.level.Level.TheVariants.{Warning}
use Rattle.notes.specs.declared.note.Note.{Note}
use Rattle.notes.specs.Notes.{IsOn}
use Rattle.seq_program.specs.Places.{place_line}

-- a note of a level is on the line of a program's place, if it has one
abbrev pub IsOnPlace : Level → List (List ℕ) → ℕ → Option Note → Type 0
IsOnPlace level lines place note =
    MatchOption (place_line place lines) (note ≡ None)
    (λ number. IsSomeAnd note (IsOn level (codes "%program") number lines))

-- a warning on the line of a place, or on the first where that isn't found
abbrev pub IsWarningAt : List (List ℕ) → ℕ → Note → Type 0
IsWarningAt lines place note =
    IsOn Warning (codes "%program") (unwrap_or (place_line place lines) 1) lines note
