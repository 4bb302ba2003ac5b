-- Where the edges of places lead, as a search keeps them. No public contract cites this.
use Rattle.std.specs.Prelude.{◌≡◌, ℕ, List, [], Bool, false, length, map, slice_index_or, Vec}
use Rattle.std.specs.declared.alloc.Global.{Global}
use Rattle.board.specs.Boards.{Board}
use Rattle.seq_program.specs.declared.instr.Instr.{Instr}
use Rattle.facts.specs.transfer.Edges.{Edge}
use Rattle.table_check.specs.Tables.{Table}
use Rattle.fact_search.specs.Searching.{AreEdgesAt, is_changed}

-- where edges lead, with their ticks
abbrev pub leads_of : List (Edge × ℕ) → List (ℕ × ℕ)
leads_of es = map (λ e. (Edge.to e.0, e.1)) es

-- the leads of the edges of a place
abbrev pub AreLeadsAt : Board → List Instr → Table → ℕ → List (ℕ × ℕ) → Type 0
AreLeadsAt b p t place leads =
    (es : List (Edge × ℕ)) × AreEdgesAt b p t place es × (leads ≡ leads_of es)

-- the code's leads
abbrev pub leads_view : List (Vec (ℕ × ℕ) Global) → List (List (ℕ × ℕ))
leads_view leads = map (λ l. l.items) leads

abbrev pub leads_at : List (List (ℕ × ℕ)) → ℕ → List (ℕ × ℕ)
leads_at leads place = slice_index_or leads place []

-- the leads of each place whose row didn't change since the place was visited
pub record IsLed (b : Board) (p : List Instr) (t : Table) (changed : List Bool)
    (leads : List (List (ℕ × ℕ))) : Type 0 where
  pub places : length leads ≡ length p
  pub led : (n : ℕ) → is_changed changed n ≡ false → AreLeadsAt b p t n (leads_at leads n)

-- the same at the end of a search, for all places
pub record IsLedTable (b : Board) (p : List Instr) (t : Table) (leads : List (List (ℕ × ℕ)))
    : Type 0 where
  pub places : length leads ≡ length p
  pub led : (n : ℕ) → AreLeadsAt b p t n (leads_at leads n)
