-- Programs that only lead on.
use Rattle.std.specs.Prelude.{◌≡◌, ◌<◌, ℕ, List, slice_get, Some, IfSome}
use Rattle.seq_program.specs.declared.instr.Instr.{Instr}
use Rattle.seq_program.specs.Valid.{jump_in}

-- each jump, an else label included, lands after its own place
abbrev pub IsForward : List Instr → Type 0
IsForward p = (place : ℕ) (i : Instr) → slice_get p place ≡ Some i
    → IfSome (jump_in i) (λ to. place < to)
