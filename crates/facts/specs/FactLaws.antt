-- What a row that covers another says of it: the law of facts.
use Rattle.std.specs.Prelude.{◌≡◌, ℕ, List, length, replicate, Some}
use Rattle.board.specs.Boards.{Board}
use Rattle.board.specs.Valid.{IsBoard}
use Rattle.seq_program.specs.declared.instr.Instr.{Instr}
use Rattle.seq_program.specs.Requests.{else_in}
use Rattle.seq_program.specs.Valid.{IsInstr, IsInstrOn}
use Rattle.facts.specs.declared.duties.rule.Rule.{Rule}
use Rattle.facts.specs.declared.duties.rule.Rule.TheVariants.{K1}
use Rattle.simulator.specs.Machines.{Machine, Entry}
use Rattle.facts.specs.domain.Rows.{Row, RowCovers, IsRow, Admits}
use Rattle.facts.specs.duties.Duties.{Meets}
use Rattle.facts.specs.transfer.Edges.{Edge, edge, edges}
use Rattle.facts.specs.transfer.Ticks.{own_ticks}
use Rattle.facts.specs.transfer.TimedEdges.{HasTimed, timed, timed_edges}

-- a row but for its ticks
abbrev pub without_ticks : Row → Row
without_ticks row = record row { base = 0; coeffs = replicate 4 0; lost_coeff = 0 }

-- a row of the board, whatever its ticks are
abbrev pub IsShaped : Board → Row → Type 0
IsShaped b row = IsRow b (without_ticks row)

-- both are rows of the board, and the first covers the second
pub record Wider (b : Board) (s u : Row) : Type 0 where
  pub left : IsShaped b s
  pub right : IsShaped b u
  pub covers : RowCovers b s u

-- each edge of the second list is covered by one of the first to the same place, with its ticks
abbrev pub EdgesCover : Board → List (Edge × ℕ) → List (Edge × ℕ) → Type 0
EdgesCover b es fs =
    (x : Edge) (ticks : ℕ) → HasTimed fs x ticks
    → (y : Edge) × HasTimed es y ticks × (y.to ≡ x.to) × RowCovers b y.row x.row

-- what a row admits is admitted by each row that covers it
abbrev pub CoveringRowsAdmit : Type 0
CoveringRowsAdmit =
    (b : Board) (s u : Row) (m : Machine) (history : List Entry)
    → RowCovers b s u → Admits b u m history → Admits b s m history

-- what covers a row covers all that the row covers
abbrev pub CoveringGoesOn : Type 0
CoveringGoesOn =
    (b : Board) (s u v : Row) → RowCovers b s u → RowCovers b u v → RowCovers b s v

-- a duty that the wider row meets, the other meets too
abbrev pub DutiesAreKept : Type 0
DutiesAreKept =
    (b : Board) (i : Instr) (s u : Row) (rule : Rule)
    → IsInstrOn (length b.targets) i → Wider b s u → Meets b s i rule → Meets b u i rule

-- the wider row's edges cover the other's
abbrev pub EdgesFollow : Type 0
EdgesFollow =
    (b : Board) (place : ℕ) (i : Instr) (s u : Row)
    → IsBoard b → IsInstrOn (length b.targets) i → Wider b s u
    → EdgesCover b (timed_edges b place i s) (timed_edges b place i u)

-- where K1 is met, edges of a row of the board have such rows, whatever their ticks are
abbrev pub EdgesStayShaped : Type 0
EdgesStayShaped =
    (b : Board) (place : ℕ) (i : Instr) (row : Row) (e : Edge) (ticks : ℕ) → IsBoard b → IsInstr i
    → IsShaped b row → Meets b row i K1 → HasTimed (timed_edges b place i row) e ticks
    → IsShaped b e.row

-- among an instruction's own edges is one to its `else` label, with a row that covers the one
-- before and has its counters, its lost arbitrations and its ticks
pub record HasElseEdge (b : Board) (place : ℕ) (i : Instr) (row : Row) (to : ℕ) : Type 0 where
  pub by : Row
  pub there : HasTimed (timed (own_ticks b i) (edges b place i row)) (edge to by) (own_ticks b i)
  pub covers : RowCovers b by row
  pub counters : by.counters ≡ row.counters
  pub lost : by.lost ≡ row.lost
  pub base : by.base ≡ row.base
  pub coeffs : by.coeffs ≡ row.coeffs
  pub lost_coeff : by.lost_coeff ≡ row.lost_coeff

abbrev pub ElseEdgesCover : Type 0
ElseEdgesCover =
    (b : Board) (place : ℕ) (i : Instr) (row : Row) (to : ℕ) → IsShaped b row → else_in i ≡ Some to
    → HasElseEdge b place i row to
