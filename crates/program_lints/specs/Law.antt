-- What holds of sets of rails that are closed under the edges of a program.
use Rattle.std.specs.Prelude.{◌≡◌, ◌&&◌, not, ℕ, List, false}
use Rattle.board.specs.Boards.{Board}
use Rattle.board.specs.Valid.{IsBoard}
use Rattle.seq_program.specs.declared.instr.Instr.{Instr}
use Rattle.seq_program.specs.Valid.{IsProgram}
use Rattle.facts.specs.domain.Rows.{set_at}
use Rattle.facts.specs.domain.Sets.{Set, is_rail}
use Rattle.table_check.specs.Tables.{Table}
use Rattle.table_check.specs.checker.Obligations.{IsInductive}
use Rattle.program_lints.specs.Changes.{IsOffAfter, HasVoltageAfter}
use Rattle.program_lints.specs.Closed.{IsClosed}
use Rattle.program_lints.specs.PowerStates.{IsWide, IsSure}

-- the rails that may be on, where these are off
abbrev pub others : List Set → ℕ → Set
others off place = λ d. is_rail d && not (set_at off place d)

abbrev pub ClosedSetsAreOff : Type 0
ClosedSetsAreOff =
    (b : Board) (p : List Instr) (t : Table) (off : List Set) → IsBoard b → IsProgram p
    → IsInductive b p t → IsClosed IsOffAfter b p t off → IsWide b p (others off)

abbrev pub ClosedSetsHaveVoltages : Type 0
ClosedSetsHaveVoltages =
    (b : Board) (p : List Instr) (t : Table) (voltages : List Set) → IsBoard b → IsProgram p
    → IsInductive b p t → IsClosed HasVoltageAfter b p t voltages
    → ((d : ℕ) → set_at voltages 0 d ≡ false) → IsSure b p (set_at voltages)
