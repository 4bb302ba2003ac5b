-- The code's words for edges; `Edges` says what is asked. The public `edges` names one of them: it
-- gives the timed edges of the definition, as `timed_view` reads its own.
use Rattle.std.specs.Prelude.{ℕ, ◌<◌, ◌≤◌, slice_index, List, [], ◌∷◌, ◌++◌, length, Option}
use Rattle.std.specs.Prelude.{Some, None}
use Rattle.facts.specs.declared.domain.row.Row.{Row as CodeRow}
use Rattle.facts.specs.declared.transfer.ways.Way.{Way}
use Rattle.facts.specs.declared.transfer.ways.Ways.{Ways}
use Rattle.facts.specs.declared.domain.source.Source.{Source}
use Rattle.facts.specs.declared.domain.source.Source.TheVariants as source
use Rattle.facts.specs.domain.Rows.{row_view, most_ticks, source_at}
use Rattle.facts.specs.transfer.Edges.{Edge, edge}

abbrev pub way_list : Option Way → List Edge
way_list None = []
way_list (Some w) = edge w.to (row_view w.row) ∷ []

abbrev pub ways_list : Ways → List Edge
ways_list w = way_list w.first ++ way_list w.second

-- the row has what a source names
abbrev pub IsNamedIn : CodeRow → Source → Type 0
IsNamedIn row (source.Page i) = i < length row.pages.items
IsNamedIn row (source.Protect i) = i < length row.protects.items
IsNamedIn row _ = Unit {0}

-- the rail that it names is one of 64
abbrev pub IsOfFew : Source → Type 0
IsOfFew (source.Status d) = d < 64
IsOfFew _ = Unit {0}

-- what edges ask of a row
pub record IsFit (row : CodeRow) : Type 0 where
  pub base : row.base ≤ most_ticks
  pub coeffs : (c : ℕ) → c < 4 → slice_index row.coeffs c ≤ most_ticks
  pub lost_coeff : row.lost_coeff ≤ most_ticks
  pub named : (r : ℕ) → r < 8 → IsNamedIn row (source_at row.sources r)
  pub few : (r : ℕ) → r < 8 → IsOfFew (source_at row.sources r)

-- an edge of the code with its ticks
abbrev pub timed_view : ℕ × CodeRow × ℕ → Edge × ℕ
timed_view e = (edge e.0 (row_view e.1), e.2)
