-- The rule book place by place, whatever the order in which it is judged.
use Rattle.std.specs.Prelude.{◌≡◌, ◌↔◌, ◌⊎◌, ℕ, List, length, slice_get, Some, IsTrue, Contains}
use Rattle.board.specs.Boards.{Board}
use Rattle.seq_program.specs.declared.instr.Instr.{Instr}
use Rattle.seq_program.specs.Programs.{is_end}
use Rattle.facts.specs.declared.duties.rule.Rule.{Rule}
use Rattle.facts.specs.declared.duties.rule.Rule.TheVariants.{K7}
use Rattle.facts.specs.domain.Rows.{Row, IsRow}
use Rattle.facts.specs.duties.Duties.{Meets, duties}
use Rattle.facts.specs.transfer.Edges.{Edge}
use Rattle.facts.specs.transfer.TimedEdges.{HasTimed, timed_edges}
use Rattle.table_check.specs.Tables.{Table, row_of}
use Rattle.table_check.specs.declared.checker.verdict.Verdict.{Verdict}
use Rattle.table_check.specs.declared.checker.verdict.Verdict.TheVariants.{Accepted, Refused}
use Rattle.table_check.specs.checker.Obligations.{IsInductive, IsVerdict}
use Rattle.table_check.specs.checker.Rules.{IsCovered, Pays, PaysEnd, Starts}

-- K6 and K7 of an instruction at its row
pub record EdgesHold (b : Board) (t : Table) (place : ℕ) (i : Instr) (row : Row) : Type 0 where
  pub covered : (e : Edge) (ticks : ℕ) → HasTimed (timed_edges b place i row) e ticks
      → IsCovered b t e
  pub falls : (e : Edge) (ticks : ℕ) → HasTimed (timed_edges b place i row) e ticks
      → Pays b t ticks e
  pub ends : IsTrue (is_end i) → PaysEnd b row

-- K1 to K5 of an instruction at its row
abbrev pub MeetsAll : Board → Instr → Row → Type 0
MeetsAll b i row = (rule : Rule) → Meets b row i rule

-- K8, K9, and wherever a place's duties are met, K6 and K7 there
pub record Follows (b : Board) (p : List Instr) (t : Table) : Type 0 where
  pub places : length t ≡ length p
  pub rows : (place : ℕ) (row : Row) → row_of t place ≡ Some row → IsRow b row
  pub start : Starts b t
  pub goes_on : (place : ℕ) (i : Instr) (row : Row)
      → slice_get p place ≡ Some i → row_of t place ≡ Some row → MeetsAll b i row
      → EdgesHold b t place i row

-- K8, K9, and wherever a place's duties are met, K6 there
pub record IsClosed (b : Board) (p : List Instr) (t : Table) : Type 0 where
  pub places : length t ≡ length p
  pub rows : (place : ℕ) (row : Row) → row_of t place ≡ Some row → IsRow b row
  pub start : Starts b t
  pub covered : (place : ℕ) (i : Instr) (row : Row)
      → slice_get p place ≡ Some i → row_of t place ≡ Some row → MeetsAll b i row
      → (e : Edge) (ticks : ℕ) → HasTimed (timed_edges b place i row) e ticks → IsCovered b t e

-- K1 to K5 at each place
abbrev pub KeepsDuties : Board → List Instr → Table → Type 0
KeepsDuties b p t =
    (place : ℕ) (i : Instr) (row : Row)
    → slice_get p place ≡ Some i → row_of t place ≡ Some row → MeetsAll b i row

abbrev pub InductiveByPlace : Type 0
InductiveByPlace =
    (b : Board) (p : List Instr) (t : Table)
    → IsInductive b p t ↔ (Follows b p t × KeepsDuties b p t)

-- a verdict that accepts, or tells a duty: what the instruction there does is wrong in itself
abbrev pub TellsDuty : Verdict → Type 0
TellsDuty (Accepted bound) = Unit {0}
TellsDuty (Refused place rule) = Contains duties rule

-- or one that tells that the ticks don't fall
abbrev pub TellsDutyOrTicks : Verdict → Type 0
TellsDutyOrTicks (Accepted bound) = Unit {0}
TellsDutyOrTicks (Refused place rule) = Contains duties rule ⊎ (rule ≡ K7)

abbrev pub FollowingTablesTellDuties : Type 0
FollowingTablesTellDuties =
    (b : Board) (p : List Instr) (t : Table) (v : Verdict)
    → Follows b p t → IsVerdict b p t v → TellsDuty v

abbrev pub ClosedTablesTellDutiesOrTicks : Type 0
ClosedTablesTellDutiesOrTicks =
    (b : Board) (p : List Instr) (t : Table) (v : Verdict)
    → IsClosed b p t → IsVerdict b p t v → TellsDutyOrTicks v
