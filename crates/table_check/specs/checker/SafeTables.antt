-- What a table that keeps the rule book says of runs.
use Rattle.std.specs.Prelude.{List}
use Rattle.board.specs.Boards.{Board}
use Rattle.board.specs.Valid.{IsBoard}
use Rattle.seq_program.specs.declared.instr.Instr.{Instr}
use Rattle.seq_program.specs.Valid.{IsProgram}
use Rattle.simulator.specs.Headline.{RunsAreSafe}
use Rattle.table_check.specs.Tables.{Table}
use Rattle.table_check.specs.declared.checker.verdict.Verdict.{Verdict}
use Rattle.table_check.specs.declared.checker.verdict.Verdict.TheVariants.{Accepted, Refused}
use Rattle.table_check.specs.checker.Obligations.{IsInductive, IsVerdict, bound_of}

-- each run is safe and ends within the ticks that are left at the start
abbrev pub InductiveRunsAreSafe : Type 0
InductiveRunsAreSafe =
    (b : Board) (p : List Instr) (t : Table) → IsBoard b → IsProgram p → IsInductive b p t
    → RunsAreSafe b p (bound_of t)

-- an accepting verdict says so of a bound; a refusing one says nothing of runs
abbrev pub IsSafeVerdict : Board → List Instr → Verdict → Type 0
IsSafeVerdict b p (Accepted bound) = RunsAreSafe b p bound
IsSafeVerdict b p (Refused place rule) = Unit {0}

abbrev pub VerdictsAreSafe : Type 0
VerdictsAreSafe =
    (b : Board) (p : List Instr) (t : Table) (v : Verdict) → IsBoard b → IsProgram p
    → IsVerdict b p t v → IsSafeVerdict b p v
