-- The code's words for ticks. No public contract cites this.
use Rattle.std.specs.Prelude.{◌≡◌, ◌≤◌, ◌+◌, ℕ, List, [], ◌∷◌, length, slice_get, slice_index}
use Rattle.std.specs.Prelude.{Option}
use Rattle.std.specs.Prelude.{Some, None, All, replicate, ◌-◌, ◌*◌, map, min, max}
use Rattle.board.specs.Boards.{Board}
use Rattle.seq_program.specs.declared.instr.Instr.{Instr}
use Rattle.facts.specs.transfer.Edges.{Edge}
use Rattle.facts.specs.transfer.Ticks.{own_ticks}
use Rattle.facts.specs.transfer.TimedEdges.{HasTimed, timed_edges}
use Rattle.simulator.specs.ForeignTicks.{foreign_ticks}
use Rattle.facts.specs.domain.Rows.{Row, most_ticks}
use Rattle.table_check.specs.checker.ByPlace.{MeetsAll}
use Rattle.table_check.specs.Tables.{Table, row_of}
use Rattle.fact_search.specs.declared.loops.Ticks.{Ticks}

-- no instruction takes more ticks
abbrev pub most_worst : ℕ
most_worst = 536870912

-- what an edge costs at most, where a lost arbitration pays so many ticks: the instruction's own,
-- or what is left of the longest frame of another controller
abbrev pub most_cost : Board → ℕ → Instr → ℕ
most_cost b lost i = max (own_ticks b i) (foreign_ticks b - lost)

-- where the duties of a place are met, so many ticks pay for what each of its edges costs
abbrev pub PaysAt : Board → List Instr → Table → ℕ → List ℕ → ℕ → ℕ → Type 0
PaysAt b p t lost ticks place n =
    (i : Instr) (row : Row) → slice_get p place ≡ Some i → row_of t place ≡ Some row
    → MeetsAll b i row → (e : Edge) (worst : ℕ) → HasTimed (timed_edges b place i row) e worst
    → min worst (most_cost b lost i) + slice_index ticks e.to ≤ n

-- ticks for each place, which fall along each edge by its cost
pub record DoFit (b : Board) (p : List Instr) (t : Table) (lost : ℕ) (ticks : List ℕ) : Type 0
  where
    pub count : length ticks ≡ length p
    pub some : All (λ n. 1 ≤ n) ticks
    pub most : All (λ n. n ≤ 1 + most_worst * 1024) ticks
    pub pays : (place : ℕ) → PaysAt b p t lost ticks place (slice_index ticks place)

-- a row with other ticks
abbrev pub with_left : Ticks → Row → Row
with_left left row =
    record row { base = left.base; coeffs = left.coeffs; lost_coeff = left.lost }

-- a row with ticks, if there are both
abbrev pub ticked_row : Option Ticks → Option Row → Option Row
ticked_row left None = None
ticked_row None (Some row) = None
ticked_row (Some left) (Some row) = Some (with_left left row)

abbrev pub ticked : List Ticks → Table → Table
ticked lefts [] = []
ticked [] (row ∷ rows) = ticked_row None row ∷ ticked [] rows
ticked (left ∷ lefts) (row ∷ rows) = ticked_row (Some left) row ∷ ticked lefts rows

-- ticks without coefficients
abbrev pub plain : ℕ → Ticks
plain n = record { base = n; coeffs = replicate 4 0; lost = 0 }

-- at place 0 all arbitrations that may be lost are paid for beforehand
abbrev pub ahead : ℕ → ℕ → Ticks → Ticks
ahead lost most left = record left { base = min most_ticks (left.base + lost * most) }

-- elsewhere each that may still be lost
abbrev pub later : ℕ → Ticks → Ticks
later lost left = record left { lost = lost }

abbrev pub paid : ℕ → ℕ → List Ticks → List Ticks
paid lost most [] = []
paid lost most (left ∷ lefts) = ahead lost most left ∷ map (later lost) lefts

-- ticks without coefficients but for lost arbitrations, which fit a table
pub record ArePaid (b : Board) (p : List Instr) (t : Table) (lefts : List Ticks) : Type 0 where
  pub lost : ℕ
  pub low : lost ≤ most_worst
  pub ticks : List ℕ
  pub fit : DoFit b p t lost ticks
  pub same : lefts ≡ paid lost b.contentions (map plain ticks)
