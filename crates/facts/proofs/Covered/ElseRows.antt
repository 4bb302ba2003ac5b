-- The edge to an `else` label covers the row before it.
use Rattle.std.proofs.Common.{◌≡◌, ◌<◌, ◌==◌, ◌⊎◌, ◌∙◌, ℕ, Bool, true, false, Some}
use Rattle.std.proofs.Common.{List, length, inl, inr}
use Rattle.std.proofs.Common.{refl, sym, ap, subst, arith}
use Rattle.std.specs.Prelude.{slice_set, not}
use Rattle.std.proofs.lemmas.Bool.{and_parts, cases_eq, or_left, cond_both}
use Rattle.std.proofs.lemmas.List.{get_or-set_same, get_or-set_other}
use Rattle.board.specs.Boards.{Board}
use Rattle.seq_program.specs.declared.instr.Instr.{Instr}
use Rattle.seq_program.specs.declared.instr.Instr.TheVariants as instr
use Rattle.seq_program.specs.Requests.{Transaction, quick, send, receive, write, read, call}
use Rattle.seq_program.specs.Requests.{write_block, read_block, call_block, request, request_in}
use Rattle.facts.specs.declared.domain.source.Source.{Source}
use Rattle.facts.specs.declared.domain.source.Source.TheVariants as source
use Rattle.facts.specs.domain.Sets.{Set, empty, gains}
use Rattle.facts.specs.domain.Rows.{Row, RowCovers, SetCovers, SourceCovers, set_at, source_at}
use Rattle.facts.specs.transfer.Edges.{edge, edges, edges_of, Effect, SetsPage}
use Rattle.facts.specs.transfer.Edges.{SetsProtect, TurnsOff, ReadsStatus, ReadsPage, ReadsProtect}
use Rattle.facts.specs.transfer.Edges.{Loads, Nothing, effect_of, else_row, forget, clear}
use Rattle.facts.specs.transfer.Edges.{is_page_of, is_protect_of, is_status_of, with_page}
use Rattle.facts.specs.transfer.Edges.{with_protect, without_touched}
use Rattle.facts.specs.duties.Duties.{is_touched}
use Rattle.facts.specs.transfer.Ticks.{own_ticks}
use Rattle.facts.specs.FactLaws.{IsShaped, HasElseEdge, ElseEdgesCover}
use Rattle.facts.proofs.Shared.EdgeLists.{HasEdge, timed_has}
use Rattle.facts.proofs.Shared.Lists.{source-clear}
use Rattle.facts.proofs.Covered.Covers.{covers_self, SpansCover-refl}

forgotten : (p : Source → Bool) (s : Source) → SourceCovers (forget p s) s
forgotten p s =
    cond_both (p s) source.None s (λ z. SourceCovers z s) (λ _. inl refl) (λ _. inr refl)

cleared : (p : Source → Bool) (ss : List Source) (r : ℕ) → p source.None ≡ false
    → SourceCovers (source_at (clear p ss) r) (source_at ss r)
cleared p ss r outside =
    subst (λ z. SourceCovers z (source_at ss r)) (sym (source-clear p ss r outside))
    (forgotten p (source_at ss r))

-- a list of sets covers itself where one of them gains a value
gains_covers : (ss : List Set) (t v i : ℕ) → i < length ss
    → SetCovers (set_at (slice_set ss t (gains (set_at ss t) v)) i) (set_at ss i)
gains_covers ss t v i there w h = go (cases_eq i t)
  where
    go : (i ≡ t) ⊎ (i ≡ t → ⊥) → set_at (slice_set ss t (gains (set_at ss t) v)) i w ≡ true
    go (inl e) =
        let Q : ℕ → Type 0 = λ x. set_at (slice_set ss t (gains (set_at ss t) v)) x w ≡ true in
        let here : set_at ss t w ≡ true = ap (λ x. set_at ss x w) (sym e) ∙ h in
        subst Q (sym e) (ap (λ (r : Set). r w)
        (get_or-set_same ss t (gains (set_at ss t) v) empty (omega (arith, there, e)))
        ∙ or_left (set_at ss t w) (w == v) here)
    go (inr ne) =
        ap (λ (r : Set). r w) (get_or-set_other ss t i (gains (set_at ss t) v) empty ne) ∙ h

page_wider : (b : Board) (row : Row) (t v : ℕ) → length row.pages ≡ length b.targets
    → RowCovers b (with_page row t (gains (set_at row.pages t) v)) row
page_wider b row t v many = record {
  pages = λ i at'. gains_covers row.pages t v i (omega (arith, at', many));
  protects = λ i at' w h. h;
  good = λ d h. h;
  regs = SpansCover-refl row.regs;
  sources = λ r. cleared (is_page_of t) row.sources r refl;
  counters = SpansCover-refl row.counters;
  lost = (omega arith, omega arith);
}

protect_wider : (b : Board) (row : Row) (t v : ℕ) → length row.protects ≡ length b.targets
    → RowCovers b (with_protect row t (gains (set_at row.protects t) v)) row
protect_wider b row t v many = record {
  pages = λ i at' w h. h;
  protects = λ i at'. gains_covers row.protects t v i (omega (arith, at', many));
  good = λ d h. h;
  regs = SpansCover-refl row.regs;
  sources = λ r. cleared (is_protect_of t) row.sources r refl;
  counters = SpansCover-refl row.counters;
  lost = (omega arith, omega arith);
}

touched_wider : (b : Board) (row : Row) (t : ℕ) → RowCovers b (without_touched b row t) row
touched_wider b row t = record {
  pages = λ i at' w h. h;
  protects = λ i at' w h. h;
  good = λ d h. (and_parts (row.good d) (not (is_touched b row t d)) h).0;
  regs = SpansCover-refl row.regs;
  sources = λ r. cleared (is_status_of (is_touched b row t)) row.sources r refl;
  counters = SpansCover-refl row.counters;
  lost = (omega arith, omega arith);
}

-- what is left of a row for a message that isn't done
record Else (b : Board) (by row : Row) : Type 0 where
  pub covers : RowCovers b by row
  pub counters : by.counters ≡ row.counters
  pub lost : by.lost ≡ row.lost
  pub base : by.base ≡ row.base
  pub coeffs : by.coeffs ≡ row.coeffs
  pub lost_coeff : by.lost_coeff ≡ row.lost_coeff

else_same : (b : Board) (row : Row) → Else b row row
else_same b row = record {
  covers = covers_self b row;
  counters = refl;
  lost = refl;
  base = refl;
  coeffs = refl;
  lost_coeff = refl;
}

else_touched : (b : Board) (row : Row) (t : ℕ) → Else b (without_touched b row t) row
else_touched b row t = record {
  covers = touched_wider b row t;
  counters = refl;
  lost = refl;
  base = refl;
  coeffs = refl;
  lost_coeff = refl;
}

else_is : (b : Board) (row : Row) (t : ℕ) (f : Effect) → IsShaped b row
    → Else b (else_row b row t f) row
else_is b row t (SetsPage v) k = record {
  covers = page_wider b row t v k.page_sets;
  counters = refl;
  lost = refl;
  base = refl;
  coeffs = refl;
  lost_coeff = refl;
}
else_is b row t (SetsProtect v) k = record {
  covers = protect_wider b row t v k.protect_sets;
  counters = refl;
  lost = refl;
  base = refl;
  coeffs = refl;
  lost_coeff = refl;
}
else_is b row t TurnsOff k = else_touched b row t
else_is b row t (ReadsStatus r) k = else_touched b row t
else_is b row t (ReadsPage r) k = else_same b row
else_is b row t (ReadsProtect r) k = else_same b row
else_is b row t (Loads r) k = else_same b row
else_is b row t Nothing k = else_same b row

has_else : (b : Board) (place : ℕ) (i : Instr) (row by : Row) (to : ℕ)
    → HasEdge (edges b place i row) (edge to by) → Else b by row → HasElseEdge b place i row to
has_else b place i row by to there k = record {
  by = by;
  there = timed_has (own_ticks b i) (edges b place i row) (edge to by) there;
  covers = k.covers;
  counters = k.counters;
  lost = k.lost;
  base = k.base;
  coeffs = k.coeffs;
  lost_coeff = k.lost_coeff;
}

some_to : (n to : ℕ) → Some n ≡ Some to → n ≡ to
some_to n to e = cc

sent : (b : Board) (place : ℕ) (i : Instr) (row : Row) (to target otherwise : ℕ)
    (r : Transaction) → IsShaped b row → request_in i ≡ Some (request target r otherwise)
    → Some otherwise ≡ Some to → HasElseEdge b place i row to
sent b place i row to target otherwise r k sends e =
    let there : HasEdge (edges b place i row)
    (edge otherwise (else_row b row target (effect_of r))) =
    subst (λ es. HasEdge es (edge otherwise (else_row b row target (effect_of r))))
    (sym (ap (edges_of b place i row) sends)) (inr (inl refl)) in
    subst (λ n. HasElseEdge b place i row n) (some_to otherwise to e)
    (has_else b place i row (else_row b row target (effect_of r)) otherwise there
    (else_is b row target (effect_of r) k))

pub else_edges_cover : ElseEdgesCover
else_edges_cover b place (instr.Quick t read l) row to k e =
    sent b place (instr.Quick t read l) row to t l (quick read) k refl e
else_edges_cover b place (instr.Send t c l) row to k e =
    sent b place (instr.Send t c l) row to t l (send c) k refl e
else_edges_cover b place (instr.Receive t r l) row to k e =
    sent b place (instr.Receive t r l) row to t l (receive r) k refl e
else_edges_cover b place (instr.Write t c v l) row to k e =
    sent b place (instr.Write t c v l) row to t l (write c v) k refl e
else_edges_cover b place (instr.Read t c w r l) row to k e =
    sent b place (instr.Read t c w r l) row to t l (read c w r) k refl e
else_edges_cover b place (instr.Call t c v r l) row to k e =
    sent b place (instr.Call t c v r l) row to t l (call c v r) k refl e
else_edges_cover b place (instr.BlockWrite t c bytes l) row to k e =
    sent b place (instr.BlockWrite t c bytes l) row to t l (write_block c bytes) k refl e
else_edges_cover b place (instr.BlockRead t c r l) row to k e =
    sent b place (instr.BlockRead t c r l) row to t l (read_block c r) k refl e
else_edges_cover b place (instr.BlockCall t c bytes r l) row to k e =
    sent b place (instr.BlockCall t c bytes r l) row to t l (call_block c bytes r) k refl e
else_edges_cover b place (instr.Alert r l) row to k e =
    subst (λ n. HasElseEdge b place (instr.Alert r l) row n) (some_to l to e)
    (has_else b place (instr.Alert r l) row row l (inr (inl refl)) (else_same b row))
else_edges_cover b place (instr.IfAlert l) row to k e = cc
else_edges_cover b place (instr.Set r v) row to k e = cc
else_edges_cover b place (instr.Add r v) row to k e = cc
else_edges_cover b place (instr.If r m v l) row to k e = cc
else_edges_cover b place (instr.Above r v l) row to k e = cc
else_edges_cover b place (instr.Count c v) row to k e = cc
else_edges_cover b place (instr.Again c l) row to k e = cc
else_edges_cover b place (instr.Wait n) row to k e = cc
else_edges_cover b place (instr.Goto l) row to k e = cc
else_edges_cover b place instr.End row to k e = cc
else_edges_cover b place instr.Fail row to k e = cc
