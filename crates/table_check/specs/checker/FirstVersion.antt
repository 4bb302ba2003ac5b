-- The rule book as it was before contentions were counted, and what of it stays.
use Rattle.std.specs.Prelude.{◌≡◌, ◌↔◌, ◌+◌, ◌&&◌, ℕ, Bool, nat_lt, is_some, max, if◌then◌else◌}
use Rattle.std.specs.Prelude.{List, [], ◌∷◌, ◌++◌, ◌<◌, map, slice_get, IsTrue, Option, Some, None}
use Rattle.board.specs.Boards.{Board}
use Rattle.board.specs.Valid.{IsBoard}
use Rattle.seq_program.specs.declared.instr.Instr.{Instr}
use Rattle.seq_program.specs.Requests.{else_in}
use Rattle.seq_program.specs.Valid.{IsProgram}
use Rattle.simulator.specs.ForeignTicks.{foreign_ticks}
use Rattle.facts.specs.declared.duties.rule.Rule.{Rule}
use Rattle.facts.specs.domain.Rows.{Row}
use Rattle.facts.specs.duties.Duties.{duties}
use Rattle.facts.specs.transfer.Edges.{edges}
use Rattle.facts.specs.transfer.Ticks.{own_ticks}
use Rattle.facts.specs.transfer.TimedEdges.{timed}
use Rattle.table_check.specs.Tables.{Table}
use Rattle.table_check.specs.FlatTables.{IsFlat}
use Rattle.table_check.specs.declared.checker.verdict.Verdict.{Verdict}
use Rattle.table_check.specs.declared.checker.verdict.Verdict.TheVariants.{Accepted}
use Rattle.table_check.specs.checker.Obligations.{Obligation, Length, Start, Duty, shapes, of_edges}
use Rattle.table_check.specs.checker.Obligations.{of_end, IsFirstFault, verdict_on, IsVerdict}

-- an instruction sends a message, and another controller may win over that: then its frame may
-- stand in the place of each message, however often
abbrev pub is_contended : Board → Instr → Bool
is_contended b i = is_some (else_in i) && nat_lt 0 b.contentions

abbrev pub worst_ticks : Board → Instr → ℕ
worst_ticks b i = if is_contended b i then max (own_ticks b i) (foreign_ticks b) else own_ticks b i

-- so each edge has the worst ticks, and there is none for lost arbitrations
abbrev pub uncounted_row : Board → ℕ → Instr → Row → List Obligation
uncounted_row b place i row =
    map (Duty place i row) duties
    ++ (of_edges place (timed (worst_ticks b i) (edges b place i row)) ++ of_end place row i)

abbrev pub uncounted_places : Board → ℕ → List Instr → Table → List Obligation
uncounted_places b place [] rows = []
uncounted_places b place (i ∷ is') [] = []
uncounted_places b place (i ∷ is') (None ∷ rows) = uncounted_places b (place + 1) is' rows
uncounted_places b place (i ∷ is') (Some row ∷ rows) =
    uncounted_row b place i row ++ uncounted_places b (place + 1) is' rows

abbrev pub uncounted : Board → List Instr → Table → List Obligation
uncounted b p t = Length ∷ (shapes 0 t ++ (Start ∷ uncounted_places b 0 p t))

-- the verdict as it was
abbrev pub WasVerdict : Board → List Instr → Table → Verdict → Type 0
WasVerdict b p t v =
    (found : Option (ℕ × Rule)) × IsFirstFault b p t (uncounted b p t) found
    × (v ≡ verdict_on t found)

-- such a table that was accepted is, with the same bound
abbrev pub FlatTablesStayAccepted : Type 0
FlatTablesStayAccepted =
    (b : Board) (p : List Instr) (t : Table) (bound : ℕ) → IsBoard b → IsProgram p → IsFlat b t
    → WasVerdict b p t (Accepted bound) → IsVerdict b p t (Accepted bound)

-- there is such a table, of a board on which arbitrations may be lost and of a program that sends a
-- message there
pub record SomeFlatCase : Type 0 where
  pub board : Board
  pub program : List Instr
  pub table : Table
  pub bound : ℕ
  pub place : ℕ
  pub instr : Instr
  pub is_board : IsBoard board
  pub is_program : IsProgram program
  pub contended : 0 < board.contentions
  pub there : slice_get program place ≡ Some instr
  pub sends : IsTrue (is_contended board instr)
  pub flat : IsFlat board table
  pub accepted : WasVerdict board program table (Accepted bound)

-- and where no arbitration may be lost, each table's verdict is what it was
abbrev pub TablesAreJudgedAlike : Type 0
TablesAreJudgedAlike =
    (b : Board) (p : List Instr) (t : Table) (v : Verdict) → b.contentions ≡ 0
    → WasVerdict b p t v ↔ IsVerdict b p t v
