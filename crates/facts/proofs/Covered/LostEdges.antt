-- The edge of a lost arbitration, beside an instruction's own.
use Rattle.std.proofs.Common.{◌≡◌, ◌<◌, ◌⊎◌, ℕ, Option, Some, None, List, [], ◌++◌, inl, inr, sym}
use Rattle.std.proofs.Common.{subst}
use Rattle.std.proofs.Common.{arith}
use Rattle.std.proofs.lemmas.Bool.{lt-ltb, ltb-true}
use Rattle.std.specs.Prelude.{nat_lt}
use Rattle.board.specs.Boards.{Board}
use Rattle.seq_program.specs.Requests.{else_in}
use Rattle.simulator.specs.ForeignTicks.{foreign_ticks}
use Rattle.facts.specs.domain.Rows.{Row, RowCovers}
use Rattle.facts.specs.transfer.Edges.{Edge, edges, lost_row, lost_edges}
use Rattle.facts.specs.transfer.Ticks.{own_ticks}
use Rattle.facts.specs.transfer.TimedEdges.{HasTimed, timed}
use Rattle.facts.specs.FactLaws.{IsShaped, EdgesCover, EdgesFollow, EdgesStayShaped}
use Rattle.facts.proofs.Shared.EdgeLists.{HasEdge, timed_has, has_timed, timed_front, timed_back}
use Rattle.facts.proofs.Shared.EdgeLists.{timed_either}
use Rattle.facts.proofs.Covered.Follows.{OwnEdgesCover, follows_none, follows_if, has_if}
use Rattle.facts.proofs.Covered.EdgeLaw.{own_edges_follow}
use Rattle.facts.proofs.Covered.EdgeShapes.{own_edges_shaped}

timed_follows : (b : Board) (n : ℕ) (es fs : List Edge) → OwnEdgesCover b es fs
    → EdgesCover b (timed n es) (timed n fs)
timed_follows b n es fs k x ticks h =
    let has = has_timed n fs x ticks h in
    let y = k x has.0 in
    let P : ℕ → Type 0 = λ t. HasTimed (timed n es) y.0 t in
    (y.0, subst P (sym has.1) (timed_has n es y.0 y.1), y.2, y.3)

both_follow : (b : Board) (es es' fs fs' : List (Edge × ℕ)) → EdgesCover b es fs
    → EdgesCover b es' fs' → EdgesCover b (es ++ es') (fs ++ fs')
both_follow b es es' fs fs' k k' x ticks h = go (timed_either fs fs' x ticks h)
  where
    go : HasTimed fs x ticks ⊎ HasTimed fs' x ticks → (y : Edge) × HasTimed (es ++ es') y ticks
        × (y.to ≡ x.to) × RowCovers b y.row x.row
    go (inl l) = let y = k x ticks l in (y.0, timed_front es es' y.0 ticks y.1, y.2, y.3)
    go (inr l) = let y = k' x ticks l in (y.0, timed_back es es' y.0 ticks y.1, y.2, y.3)

lost_covers : (b : Board) (s u : Row) → RowCovers b s u → RowCovers b (lost_row b s) (lost_row b u)
lost_covers b s u c = record {
  pages = c.pages;
  protects = c.protects;
  good = c.good;
  regs = c.regs;
  sources = c.sources;
  counters = c.counters;
  lost = (omega (arith, c.lost.0), omega (arith, c.lost.1));
}

lost_follows : (b : Board) (o : Option ℕ) (s u : Row) → RowCovers b s u
    → OwnEdgesCover b (lost_edges b o s) (lost_edges b o u)
lost_follows b None s u c = follows_none b []
lost_follows b (Some l) s u c =
    follows_if b (nat_lt s.lost.lo b.contentions) (nat_lt u.lost.lo b.contentions) l
    (lost_row b s) (lost_row b u)
    (λ d. let lt : u.lost.lo < b.contentions = ltb-true u.lost.lo b.contentions d in
    lt-ltb s.lost.lo b.contentions (omega (arith, lt, c.lost.0)))
    (λ d. lost_covers b s u c)

pub edges_follow : EdgesFollow
edges_follow b place i s u board said k =
    both_follow b (timed (own_ticks b i) (edges b place i s))
    (timed (foreign_ticks b) (lost_edges b (else_in i) s))
    (timed (own_ticks b i) (edges b place i u))
    (timed (foreign_ticks b) (lost_edges b (else_in i) u))
    (timed_follows b (own_ticks b i) (edges b place i s) (edges b place i u)
    (own_edges_follow b place i s u board said k))
    (timed_follows b (foreign_ticks b) (lost_edges b (else_in i) s) (lost_edges b (else_in i) u)
    (lost_follows b (else_in i) s u k.covers))

lost_row_shaped : (b : Board) (row : Row) → IsShaped b row → row.lost.lo < b.contentions
    → IsShaped b (lost_row b row)
lost_row_shaped b row k lt = record {
  page_sets = k.page_sets;
  protect_sets = k.protect_sets;
  pages = k.pages;
  protects = k.protects;
  good = k.good;
  reg_count = k.reg_count;
  regs = k.regs;
  reg_range = k.reg_range;
  source_count = k.source_count;
  sources = k.sources;
  counter_count = k.counter_count;
  counters = k.counters;
  lost = omega (arith, k.lost, lt);
  lost_range = omega arith;
  base = k.base;
  coeff_count = k.coeff_count;
  coeffs = k.coeffs;
  lost_coeff = k.lost_coeff;
}

lost_shaped : (b : Board) (o : Option ℕ) (row : Row) (x : Edge) → IsShaped b row
    → HasEdge (lost_edges b o row) x → IsShaped b x.row
lost_shaped b None row x k h = absurd h
lost_shaped b (Some l) row x k h =
    let z = has_if (nat_lt row.lost.lo b.contentions) l (lost_row b row) x h in
    let P : Edge → Type 0 = λ e. IsShaped b e.row in
    subst P (sym z.1) (lost_row_shaped b row k (ltb-true row.lost.lo b.contentions z.0))

pub edges_stay_shaped : EdgesStayShaped
edges_stay_shaped b place i row e ticks board fits k duty h =
    go (timed_either (timed (own_ticks b i) (edges b place i row))
    (timed (foreign_ticks b) (lost_edges b (else_in i) row)) e ticks h)
  where
    go : HasTimed (timed (own_ticks b i) (edges b place i row)) e ticks
        ⊎ HasTimed (timed (foreign_ticks b) (lost_edges b (else_in i) row)) e ticks
        → IsShaped b e.row
    go (inl l) = own_edges_shaped b place i row e board fits k duty
        (has_timed (own_ticks b i) (edges b place i row) e ticks l).0
    go (inr l) = lost_shaped b (else_in i) row e k
        (has_timed (foreign_ticks b) (lost_edges b (else_in i) row) e ticks l).0
