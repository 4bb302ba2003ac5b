-- Places of a program that a table of facts knows: those to which something leads.
use Rattle.std.specs.Prelude.{◌==◌, ◌||◌, ◌&&◌, ◌-◌, ℕ, zero, suc, Bool, false, is_some, List}
use Rattle.std.specs.Prelude.{length, slice_get}
use Rattle.std.specs.Option.{option_map_or}
use Rattle.seq_program.specs.declared.instr.Instr.{Instr}
use Rattle.table_check.specs.Tables.{Table, row_of}

-- the table has a row for the place
abbrev pub is_reached : Table → ℕ → Bool
is_reached t place = is_some (row_of t place)

-- a place without a row is the first of its stretch: it is the first of all, or the one before it
-- has a row
abbrev pub begins_stretch : Table → ℕ → Bool
begins_stretch t place = place == 0 || is_reached t (place - 1)

-- some number below another passes a test
unfoldable pub some_below : (ℕ → Bool) → ℕ → Bool
some_below test zero = false
some_below test (suc n) = some_below test n || test n

-- an instruction to which something leads passes a test
abbrev pub passes_at : (Instr → Bool) → List Instr → Table → ℕ → Bool
passes_at test p t place = is_reached t place && option_map_or test (slice_get p place) false

-- some such instruction of the program does
abbrev pub some_reached : (Instr → Bool) → List Instr → Table → Bool
some_reached test p t = some_below (passes_at test p t) (length p)
