-- The law of edges: those of a row that covers another cover the other's, for each instruction.
use Rattle.std.proofs.Common.{◌≡◌, ℕ, ◌+◌, ◌<◌, ◌≤◌, List, [], ◌∷◌, length, refl, inl, arith}
use Rattle.std.proofs.lemmas.Bool.{eqb-true, eq-eqb, leb-true, le-leb, ltb-true, lt-ltb}
use Rattle.std.specs.Prelude.{◌==◌, nat_le, nat_lt, Option, Some, None, IfSome}
use Rattle.board.specs.Boards.{Board}
use Rattle.board.specs.Valid.{IsBoard}
use Rattle.seq_program.specs.declared.instr.Instr.{Instr}
use Rattle.seq_program.specs.declared.instr.Instr.TheVariants as instr
use Rattle.seq_program.specs.Valid.{IsInstr, IsInstrOn}
use Rattle.facts.specs.declared.domain.source.Source.TheVariants as source
use Rattle.facts.specs.declared.domain.span.Span.{Span}
use Rattle.facts.specs.domain.Rows.{Row, span_at, SpanCovers, SpansCover, RowCovers}
use Rattle.seq_program.specs.Requests.{Request, request_in}
use Rattle.facts.specs.duties.Duties.{one}
use Rattle.facts.specs.transfer.Edges.{edge, edge_if, edges_of, other_edges, effect_of, done_row}
use Rattle.facts.specs.transfer.Edges.{edges}
use Rattle.facts.specs.transfer.Edges.{else_row}
use Rattle.facts.specs.transfer.Edges.{with_reg, a_byte, plus, above, up_to, reg_in, counter_in}
use Rattle.facts.specs.transfer.Edges.{with_counter}
use Rattle.facts.specs.transfer.Edges.{taken_off}
use Rattle.facts.specs.FactLaws.{Wider}
use Rattle.facts.proofs.Covered.Follows.{OwnEdgesCover}
use Rattle.facts.proofs.Covered.Covers.{SpansCover-set, SpansCover-at}
use Rattle.facts.proofs.Covered.RowMoves.{reg_covers, in_sources}
use Rattle.facts.proofs.Covered.KeptDuties.{sent_on}
use Rattle.facts.proofs.Covered.MessageEdges.{FitsRequest, fits_sent, fits_effect, done_covers}
use Rattle.facts.proofs.Covered.MessageEdges.{else_covers}
use Rattle.facts.proofs.Covered.IfFollows.{if_follows, regs_covers}
use Rattle.facts.proofs.Covered.Follows.{follows_none, follows_cons, follows_append, follows_if}

-- counters change; base and coefficients are any
counters_covers : (b : Board) (s u : Row) (ss us : List Span) (n m : ℕ) (ks ls : List ℕ)
    → RowCovers b s u
    → SpansCover ss us
    → RowCovers b (record s { counters = ss; base = n; coeffs = ks })
    (record u { counters = us; base = m; coeffs = ls })
counters_covers b s u ss us n m ks ls c k = record {
  pages = c.pages;
  protects = c.protects;
  good = c.good;
  regs = c.regs;
  sources = c.sources;
  counters = k;
  lost = c.lost;
}

one_edge : (b : Board) (to : ℕ) (r r' : Row) → RowCovers b r r'
    → OwnEdgesCover b (edge to r ∷ []) (edge to r' ∷ [])
one_edge b to r r' c = follows_cons b to r r' [] [] c (follows_none b [])

two_edges : (b : Board) (to to' : ℕ) (r r' q q' : Row) → RowCovers b r r' → RowCovers b q q'
    → OwnEdgesCover b (edge to r ∷ edge to' q ∷ []) (edge to r' ∷ edge to' q' ∷ [])
two_edges b to to' r r' q q' c d =
    follows_cons b to r r' (edge to' q ∷ []) (edge to' q' ∷ []) c (one_edge b to' q q' d)

above_follows : (b : Board) (place : ℕ) (s u : Row) (r v l : ℕ) → Wider b s u
    → OwnEdgesCover b (other_edges place (instr.Above r v l) s)
    (other_edges place (instr.Above r v l) u)
above_follows b place s u r v l w =
    let x = span_at s.regs r in
    let y = span_at u.regs r in
    let c : SpanCovers x y = SpansCover-at s.regs u.regs r w.covers.regs in
    follows_append b _ (edge_if (nat_le x.lo v) (place + 1) (reg_in s r (up_to x v))) _
    (edge_if (nat_le y.lo v) (place + 1) (reg_in u r (up_to y v)))
    (follows_if b (nat_lt v x.hi) (nat_lt v y.hi) l (reg_in s r (above x v))
    (reg_in u r (above y v))
    (λ e. let k : v < y.hi = ltb-true v y.hi e in lt-ltb v x.hi (omega (arith, k, c.1)))
    (λ _. regs_covers b s u _ _ w.covers
    (SpansCover-set s.regs u.regs r _ _ w.covers.regs (omega (arith, c.0), c.1))))
    (follows_if b (nat_le x.lo v) (nat_le y.lo v) (place + 1) (reg_in s r (up_to x v))
    (reg_in u r (up_to y v))
    (λ e. let k : y.lo ≤ v = leb-true y.lo v e in le-leb x.lo v (omega (arith, k, c.0)))
    (λ _. regs_covers b s u _ _ w.covers
    (SpansCover-set s.regs u.regs r _ _ w.covers.regs (c.0, omega (arith, c.1)))))

again_follows : (b : Board) (place : ℕ) (s u : Row) (c l : ℕ) → Wider b s u
    → OwnEdgesCover b (other_edges place (instr.Again c l) s)
    (other_edges place (instr.Again c l) u)
again_follows b place s u c l w =
    let x = span_at s.counters c in
    let y = span_at u.counters c in
    let k : SpanCovers x y = SpansCover-at s.counters u.counters c w.covers.counters in
    follows_append b _ (edge_if (x.lo == 0) (place + 1) (counter_in s c (one 0))) _
    (edge_if (y.lo == 0) (place + 1) (counter_in u c (one 0)))
    (follows_if b (nat_le 1 x.hi) (nat_le 1 y.hi) l (taken_off s c) (taken_off u c)
    (λ e. let h : 1 ≤ y.hi = leb-true 1 y.hi e in le-leb 1 x.hi (omega (arith, h, k.1)))
    (λ _. counters_covers b s u _ _ _ _ _ _ w.covers
    (SpansCover-set s.counters u.counters c _ _ w.covers.counters
    (omega (arith, k.0), omega (arith, k.1)))))
    (follows_if b (x.lo == 0) (y.lo == 0) (place + 1) (counter_in s c (one 0))
    (counter_in u c (one 0))
    (λ e. let h : y.lo ≡ 0 = eqb-true y.lo 0 e in eq-eqb x.lo 0 (omega (arith, h, k.0)))
    (λ _. counters_covers b s u _ _ _ _ _ _ w.covers
    (SpansCover-set s.counters u.counters c (one 0) (one 0) w.covers.counters
    (omega arith, omega arith))))

put_covers : (b : Board) (s u : Row) (r : ℕ) (x y : Span) → Wider b s u → r < 8 → SpanCovers x y
    → RowCovers b (with_reg s r x source.None) (with_reg u r y source.None)
put_covers b s u r x y w lt c =
    reg_covers b s u r x y source.None source.None w.covers (in_sources b s r w.left lt)
    (in_sources b u r w.right lt) c (inl refl)

other_follows : (b : Board) (place : ℕ) (i : Instr) (s u : Row) → IsInstr i → Wider b s u
    → OwnEdgesCover b (other_edges place i s) (other_edges place i u)
other_follows b place (instr.Alert r l) s u fits k =
    two_edges b (place + 1) l (with_reg s r a_byte source.None) (with_reg u r a_byte source.None)
    s u
    (put_covers b s u r a_byte a_byte k fits (omega arith, omega arith)) k.covers
other_follows b place (instr.IfAlert l) s u fits k =
    two_edges b l (place + 1) s u s u k.covers k.covers
other_follows b place (instr.Set r v) s u fits k =
    one_edge b (place + 1) (with_reg s r (one v) source.None) (with_reg u r (one v) source.None)
    (put_covers b s u r (one v) (one v) k fits.0 (omega arith, omega arith))
other_follows b place (instr.Add r v) s u fits k =
    let c = SpansCover-at s.regs u.regs r k.covers.regs in
    let x = plus (span_at s.regs r) v in
    let y = plus (span_at u.regs r) v in
    one_edge b (place + 1) (with_reg s r x source.None) (with_reg u r y source.None)
    (put_covers b s u r x y k fits.0 (omega (arith, c.0), omega (arith, c.1)))
other_follows b place (instr.If r m v l) s u fits k = if_follows b place s u r m v l k fits.0
other_follows b place (instr.Above r v l) s u fits k = above_follows b place s u r v l k
other_follows b place (instr.Count c v) s u fits k =
    one_edge b (place + 1) (with_counter s c v) (with_counter u c v)
    (counters_covers b s u _ _ _ _ _ _ k.covers
    (SpansCover-set s.counters u.counters c (one v) (one v) k.covers.counters
    (omega arith, omega arith)))
other_follows b place (instr.Again c l) s u fits k = again_follows b place s u c l k
other_follows b place (instr.Wait t) s u fits k = one_edge b (place + 1) s u k.covers
other_follows b place (instr.Goto l) s u fits k = one_edge b l s u k.covers
other_follows b place instr.End s u fits k = follows_none b []
other_follows b place instr.Fail s u fits k = follows_none b []
other_follows b place (instr.Quick t read l) s u fits k = follows_none b []
other_follows b place (instr.Send t c l) s u fits k = follows_none b []
other_follows b place (instr.Receive t r l) s u fits k = follows_none b []
other_follows b place (instr.Write t c v l) s u fits k = follows_none b []
other_follows b place (instr.Read t c w r l) s u fits k = follows_none b []
other_follows b place (instr.Call t c v r l) s u fits k = follows_none b []
other_follows b place (instr.BlockWrite t c bytes l) s u fits k = follows_none b []
other_follows b place (instr.BlockRead t c r l) s u fits k = follows_none b []
other_follows b place (instr.BlockCall t c bytes r l) s u fits k = follows_none b []

of_follows : (b : Board) (place : ℕ) (i : Instr) (s u : Row) (o : Option Request) → IsBoard b
    → IsInstr i
    → IfSome o (λ x. x.target < length b.targets) → IfSome o (λ x. FitsRequest x.transaction)
    → Wider b s u
    → OwnEdgesCover b (edges_of b place i s o) (edges_of b place i u o)
of_follows b place i s u None board fits at' fits' k = other_follows b place i s u fits k
of_follows b place i s u (Some x) board fits at' fits' k =
    let e = effect_of x.transaction in
    let t = x.target in
    two_edges b (place + 1) x.otherwise (done_row b s t x.transaction e)
    (done_row b u t x.transaction e)
    (else_row b s t e) (else_row b u t e)
    (done_covers b s u t x.transaction e board k at' (fits_effect x.transaction fits'))
    (else_covers b s u t e k at')

pub own_edges_follow : (b : Board) (place : ℕ) (i : Instr) (s u : Row) → IsBoard b
    → IsInstrOn (length b.targets) i → Wider b s u
    → OwnEdgesCover b (edges b place i s) (edges b place i u)
own_edges_follow b place i s u board said k =
    of_follows b place i s u (request_in i) board said.0 (sent_on (length b.targets) i said.1)
    (fits_sent i said.0) k
