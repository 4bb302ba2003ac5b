-- Runs of a program whose table keeps the rule book.
use Rattle.std.specs.Prelude.{◌≡◌, List, length, slice_get, Some, All}
use Rattle.board.specs.Boards.{Board}
use Rattle.board.specs.Valid.{IsBoard}
use Rattle.seq_program.specs.declared.instr.Instr.{Instr}
use Rattle.seq_program.specs.Valid.{IsProgram, IsOnBoard}
use Rattle.simulator.specs.declared.machine.Ending.TheVariants.{Running}
use Rattle.simulator.specs.Machines.{Machine, Entry}
use Rattle.facts.specs.domain.Sets.{Set}
use Rattle.table_check.specs.checker.Admitted.{IsAdmitted}
use Rattle.table_check.specs.Tables.{Table}
use Rattle.table_check.specs.checker.Obligations.{IsInductive}
use Rattle.run_monitor.specs.Known.{Knows, KeepsRules}

-- where a row of such a table admits a machine, its instruction keeps the rules, with all that is
-- known there
abbrev pub AdmittedKeepRules : Type 0
AdmittedKeepRules =
    (b : Board) (p : List Instr) (t : Table) (m : Machine) (history : List Entry) (i : Instr)
    (good : Set) → IsBoard b → IsProgram p → All (λ x. IsOnBoard (length b.targets) x) p
    → IsInductive b p t → IsAdmitted b p t m history → m.ended ≡ Running
    → slice_get p m.place ≡ Some i → Knows b history good
    → KeepsRules b good m i
