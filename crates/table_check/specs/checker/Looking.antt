-- The code's words for what it looks at. No public contract cites this: `Obligations` says what is
-- asked.
use Rattle.std.specs.Prelude.{◌≡◌, ℕ, ◌+◌, ◌-◌, ◌≤◌, List, [], ◌∷◌, ◌++◌, Option, Some, None}
use Rattle.std.specs.Prelude.{All, map, slice_get}
use Rattle.board.specs.Boards.{Board}
use Rattle.seq_program.specs.declared.instr.Instr.{Instr}
use Rattle.facts.specs.declared.domain.row.Row.{Row as CodeRow}
use Rattle.facts.specs.declared.duties.rule.Rule.{Rule}
use Rattle.facts.specs.domain.Rows.{Row, row_view, InSpan, InSpans, IsRow, rank}
use Rattle.facts.specs.FactLaws.{IsShaped, without_ticks}
use Rattle.facts.specs.transfer.Edges.{Edge}
use Rattle.facts.specs.transfer.Ways.{timed_view}
use Rattle.table_check.specs.Tables.{Table, row_of}
use Rattle.table_check.specs.declared.checker.breach.Breach.{Breach}
use Rattle.table_check.specs.declared.checker.breach.Refusal.{Refusal}
use Rattle.table_check.specs.declared.checker.paying.Lack.{Lack}
use Rattle.table_check.specs.declared.checker.paying.Ticks.{Ticks}
use Rattle.table_check.specs.declared.checker.breach.Breach.TheVariants.{Unpaid, UnpaidEnd}
use Rattle.table_check.specs.checker.Breaches.{rule_of, IsToBlame}
use Rattle.table_check.specs.checker.Lacking.{IsUnpaid}
use Rattle.table_check.specs.checker.Obligations.{Obligation, Length, Start, Shape}
use Rattle.table_check.specs.checker.Obligations.{of_edges, of_row, shapes}

-- every row that a table has is one of the board
abbrev pub HasRowsOf : Board → Table → Type 0
HasRowsOf b t = (place : ℕ) (row : Row) → row_of t place ≡ Some row → IsRow b row

abbrev pub AreShapedEdges : Board → List (ℕ × CodeRow × ℕ) → Type 0
AreShapedEdges b edges = All (λ e. IsShaped b (row_view e.1)) edges

-- a row with other ticks
abbrev pub with_ticks : Row → Ticks → Row
with_ticks row ticks = record row {
  base = ticks.base;
  coeffs = ticks.coeffs;
  lost_coeff = ticks.lost_coeff;
}

-- the ticks of a row pay for what follows and for the next row, or here most are lacking
abbrev pub PaysFor : Board → ℕ → Row → Row → Type 0
PaysFor b ticks next row =
    (counters : List ℕ) → InSpans row.counters counters → (lost : ℕ) → InSpan row.lost lost
    → ticks + rank next counters (b.contentions - lost) ≤ rank row counters (b.contentions - lost)

abbrev pub FindsLack : Board → ℕ → Row → Row → Option Lack → Type 0
FindsLack b ticks next row None = PaysFor b ticks next row
FindsLack b ticks next row (Some lack) = IsUnpaid b ticks next row lack.at lack.needed lack.left

-- what is told of a breach at a place
abbrev pub fault_at : ℕ → Breach → ℕ × Rule
fault_at place by = (place, rule_of by)

abbrev pub fault_in : Refusal → ℕ × Rule
fault_in r = fault_at r.place r.breach

-- what is to blame for a refusal
abbrev pub Blames : Board → List Instr → Table → Refusal → Type 0
Blames b p t r = IsToBlame b p t r.place r.breach

-- the ticks fall along an edge to a row, or they don't by this
abbrev pub FindsUnpaid : Board → Row → ℕ → Edge × ℕ → Option Breach → Type 0
FindsUnpaid b next index e None = PaysFor b e.1 next e.0.row
FindsUnpaid b next index e (Some (Unpaid edge to spot needed left)) =
    (edge ≡ index) × (to ≡ e.0.to) × IsUnpaid b e.1 next e.0.row spot needed left
FindsUnpaid b next index e (Some other) = ⊥

-- no tick is left at an end
abbrev pub EndsUnpaid : Board → Row → Breach → Type 0
EndsUnpaid b row (UnpaidEnd spot) = IsUnpaid b 1 (without_ticks row) row spot 1 0
EndsUnpaid b row other = ⊥

-- what is owed along edges
abbrev pub of_code : ℕ → List (ℕ × CodeRow × ℕ) → List Obligation
of_code place edges = of_edges place (map timed_view edges)

-- what is owed before any instruction is looked at
abbrev pub of_form : Table → List Obligation
of_form t = Length ∷ (shapes 0 t ++ (Start ∷ []))

-- what is owed at a place, where it has an instruction and a row
abbrev pub at_both : Board → ℕ → Option Instr → Option Row → List Obligation
at_both b place None row = []
at_both b place (Some i) None = []
at_both b place (Some i) (Some row) = of_row b place i row

abbrev pub at_place : Board → List Instr → Table → ℕ → List Obligation
at_place b p t place = at_both b place (slice_get p place) (row_of t place)

-- what is owed of the row of a place, if there is one
abbrev pub shape_at : ℕ → Option Row → List Obligation
shape_at place None = []
shape_at place (Some row) = Shape place row ∷ []
