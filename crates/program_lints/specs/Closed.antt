-- Sets of rails at the places of a program, of which something is sure where a place is reached.
use Rattle.std.specs.Prelude.{◌≡◌, ℕ, List, Some, slice_get, IsTrue}
use Rattle.board.specs.Boards.{Board}
use Rattle.seq_program.specs.declared.instr.Instr.{Instr}
use Rattle.facts.specs.domain.Rows.{Row, set_at}
use Rattle.facts.specs.domain.Sets.{Set}
use Rattle.facts.specs.transfer.Edges.{Edge}
use Rattle.facts.specs.transfer.TimedEdges.{HasTimed, timed_edges}
use Rattle.table_check.specs.Tables.{Table, row_of}
use Rattle.program_lints.specs.Changes.{After}

-- what is sure at the place to which an edge leads is sure after the edge
abbrev pub IsClosed : After → Board → List Instr → Table → List Set → Type 0
IsClosed after b p t sets =
    (place : ℕ) (i : Instr) (row : Row) (e : Edge) (ticks d : ℕ)
    → slice_get p place ≡ Some i → row_of t place ≡ Some row
    → HasTimed (timed_edges b place i row) e ticks
    → IsTrue (set_at sets e.to d) → after b row i e.to (set_at sets place) d
