-- The rules of tables: what a row and the rows next to it must be. Those of an instruction at its
-- row, K1 to K5, stand in facts.
use Rattle.std.specs.Prelude.{◌≡◌, ℕ, ◌+◌, ◌-◌, ◌≤◌, List, Some}
use Rattle.board.specs.Boards.{Board}
use Rattle.facts.specs.domain.Rows.{Row, InSpan, InSpans, rank, RowCovers}
use Rattle.facts.specs.transfer.Edges.{Edge}
use Rattle.facts.specs.well_formed.Starts.{HoldsStarts}
use Rattle.table_check.specs.Tables.{Table, row_of}

-- K6: the place to which an edge leads has a row that covers the edge's
abbrev pub IsCovered : Board → Table → Edge → Type 0
IsCovered b t e = (next : Row) × (row_of t e.to ≡ Some next) × RowCovers b next e.row

-- K7: at all counters and lost arbitrations in the edge's spans the ticks that are left pay for the
-- edge's worst ticks and for those that are left after it
abbrev pub Pays : Board → Table → ℕ → Edge → Type 0
Pays b t worst e =
    (next : Row) → row_of t e.to ≡ Some next → (counters : List ℕ) → InSpans e.row.counters counters
    → (lost : ℕ) → InSpan e.row.lost lost
    → worst + rank next counters (b.contentions - lost) ≤ rank e.row counters (b.contentions - lost)

-- K7 at an end: a tick is left at all of them
abbrev pub PaysEnd : Board → Row → Type 0
PaysEnd b row =
    (counters : List ℕ) → InSpans row.counters counters → (lost : ℕ) → InSpan row.lost lost
    → 1 ≤ rank row counters (b.contentions - lost)

-- K8: place 0 has a row, which holds every start
abbrev pub Starts : Board → Table → Type 0
Starts b t = (row : Row) × (row_of t 0 ≡ Some row) × HoldsStarts b row
