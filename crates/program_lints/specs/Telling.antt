-- The code's words for lints that are pushed behind others.
use Rattle.std.specs.Prelude.{◌≡◌, ◌++◌, ℕ, List, Option}
use Rattle.board.specs.Boards.{Board}
use Rattle.seq_program.specs.declared.instr.Instr.{Instr}
use Rattle.facts.specs.domain.Rows.{Row}
use Rattle.facts.specs.domain.Sets.{Set}
use Rattle.table_check.specs.Tables.{Table}
use Rattle.program_lints.specs.declared.power.PowerStates.{PowerStates}
use Rattle.program_lints.specs.Lints.{Lints, AreFailLints, AreLintsAt}

pub record TellsFails (b : Board) (i : Instr) (on : Set) (place : ℕ) (old new : Lints)
    : Type 0 where
  pub fails : Lints
  pub are : AreFailLints b i on place fails
  pub told : new ≡ old ++ fails

pub record TellsPlace (b : Board) (p : List Instr) (t : Table) (s : PowerStates) (place : ℕ)
    (i : Option Instr) (row : Option Row) (old new : Lints) : Type 0 where
  pub own : Lints
  pub are : AreLintsAt b p t s place i row own
  pub told : new ≡ old ++ own
