-- The note on a bound.
use Rattle.std.specs.Prelude.{◌≡◌, ◌==◌, ◌++◌, ◌/◌, ◌%◌, ℕ, List, Option, IfSome, codes}
use Rattle.std.specs.Prelude.{if◌then◌else◌, nat_lt, string_bytes}
use Rattle.std.specs.Fmt.{decimal}
use Rattle.notes.specs.declared.level.Level.TheVariants.{Info}
use Rattle.notes.specs.declared.note.Note.{Note}
use Rattle.refusal_notes.specs.Places.{IsOnPlace}

-- a number of tenths with its unit
abbrev pub tenths_text : ℕ → List ℕ → List ℕ
tenths_text tenths unit =
    decimal (tenths / 10) ++ (codes "." ++ (decimal (tenths % 10) ++ (codes " " ++ unit)))

-- few ticks of 5 µs as they are, more in milliseconds, and many in seconds
abbrev pub time_text : ℕ → List ℕ
time_text ticks =
    if ticks == 1 then codes "1 tick"
    else if nat_lt ticks 20 then decimal ticks ++ codes " ticks"
    else if nat_lt ticks 2000000 then tenths_text (ticks / 20) (codes "ms")
    else tenths_text (ticks / 20000) (codes "s")

-- the bound in ticks, and how long that is
abbrev pub bound_text : ℕ → List ℕ
bound_text bound =
    codes "every run ends within "
    ++ (if nat_lt bound 20 then time_text bound
    else decimal bound ++ (codes " ticks, " ++ time_text bound))

-- on the line of the first instruction, if there is one, and it tells this bound
pub record IsBoundNote (lines : List (List ℕ)) (bound : ℕ) (note : Option Note) : Type 0 where
  pub on_first : IsOnPlace Info lines 0 note
  pub tells : IfSome note (λ n. string_bytes n.message ≡ bound_text bound)
