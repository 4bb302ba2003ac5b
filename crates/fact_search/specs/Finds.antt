-- What a search for the facts of a program answers.
use Rattle.std.specs.Prelude.{List}
use Rattle.board.specs.Boards.{Board}
use Rattle.seq_program.specs.declared.instr.Instr.{Instr}
use Rattle.table_check.specs.checker.ByPlace.{TellsDuty}
use Rattle.table_check.specs.checker.Obligations.{IsInductive, IsVerdict}
use Rattle.table_check.specs.Tables.{Table}
use Rattle.table_check.specs.declared.checker.verdict.Verdict.{Verdict}

-- the table keeps the rule book if any table does
abbrev pub IsFound : Board → List Instr → Table → Type 0
IsFound b p t = (any : Table) → IsInductive b p any → IsInductive b p t

-- the verdict on the table accepts it, or tells the cause: a duty of one instruction, not a
-- consequence such as an edge that nothing covers
abbrev pub TellsCause : Board → List Instr → Table → Type 0
TellsCause b p t = (v : Verdict) → IsVerdict b p t v → TellsDuty v
