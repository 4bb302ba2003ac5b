-- The edges of an instruction, each with the most ticks that it takes.
use Rattle.std.specs.Prelude.{◌≡◌, ℕ, ◌⊎◌, List, [], ◌∷◌, ◌++◌, map}
use Rattle.board.specs.Boards.{Board}
use Rattle.seq_program.specs.declared.instr.Instr.{Instr}
use Rattle.seq_program.specs.Requests.{else_in}
use Rattle.simulator.specs.ForeignTicks.{foreign_ticks}
use Rattle.facts.specs.domain.Rows.{Row}
use Rattle.facts.specs.transfer.Edges.{Edge, edges, lost_edges}
use Rattle.facts.specs.transfer.Ticks.{own_ticks}

abbrev pub timed : ℕ → List Edge → List (Edge × ℕ)
timed ticks edges = map (λ e. (e, ticks)) edges

-- first its own, and then that of a lost arbitration, in which another controller's frame stands on
-- the lines
abbrev pub timed_edges : Board → ℕ → Instr → Row → List (Edge × ℕ)
timed_edges b place i row =
    timed (own_ticks b i) (edges b place i row)
    ++ timed (foreign_ticks b) (lost_edges b (else_in i) row)

-- the edge is among them, with these ticks
abbrev pub HasTimed : List (Edge × ℕ) → Edge → ℕ → Type 0
HasTimed [] x ticks = ⊥
HasTimed (e ∷ es) x ticks = ((x ≡ e.0) × (ticks ≡ e.1)) ⊎ HasTimed es x ticks
