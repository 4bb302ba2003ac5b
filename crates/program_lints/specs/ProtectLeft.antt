-- What a program may leave WRITE_PROTECT of a target at (PMBus 1.3 Part II, 11.1).
use Rattle.std.specs.Prelude.{◌==◌, ◌&&◌, not, ℕ, Bool, false, List, [], ◌∷◌}
use Rattle.std.specs.List.{list_any}
use Rattle.pmbus_table.specs.Codes.{write_protect_code}
use Rattle.board.specs.Boards.{Target}
use Rattle.seq_program.specs.declared.instr.Instr.{Instr}
use Rattle.seq_program.specs.declared.instr.Instr.TheVariants as instr
use Rattle.seq_program.specs.declared.instr.Written.TheVariants as written
use Rattle.seq_program.specs.Programs.{is_end}
use Rattle.facts.specs.domain.Rows.{Row, set_at}
use Rattle.facts.specs.domain.Sets.{Set}
use Rattle.table_check.specs.Tables.{Table}
use Rattle.program_lints.specs.Reached.{some_reached}

-- an instruction writes WRITE_PROTECT of a target
abbrev pub writes_protect : ℕ → Instr → Bool
writes_protect target (instr.Write t code (written.Byte value) otherwise) =
    t == target && code == write_protect_code
writes_protect target _ = false

-- a protection of a set is another than this one: each is one of these four
abbrev pub has_other : Set → ℕ → Bool
has_other protects first =
    list_any (λ v. protects v && not (v == first)) (0x00 ∷ 0x20 ∷ 0x40 ∷ 0x80 ∷ [])

-- it may be another than one of those that it may have at the start
abbrev pub may_differ : List ℕ → Set → Bool
may_differ starts protects = list_any (has_other protects) starts

-- the program ends at a row, writes it somewhere, and may leave it otherwise than it began
abbrev pub is_protect_left : List Instr → Table → Row → Instr → ℕ × Target → Bool
is_protect_left p t row i target =
    is_end i && (may_differ target.1.start_protects (set_at row.protects target.0)
    && some_reached (writes_protect target.0) p t)
