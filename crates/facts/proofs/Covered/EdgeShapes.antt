-- The edges of a row of the board have rows of the board, where K1 is met.
use Rattle.std.proofs.Common.{◌≡◌, ℕ, ◌+◌, ◌*◌, ◌<◌, ◌≤◌, ◌⊎◌, [], ◌∷◌, ◌++◌, sym, subst, inl, inr}
use Rattle.std.proofs.Common.{arith, Bool, true, not}
use Rattle.std.proofs.lemmas.Bool.{ltb-true, leb-true}
use Rattle.std.specs.Prelude.{◌==◌, nat_le, nat_lt, Option, Some, None, IfSome, slice_index}
use Rattle.std.specs.Prelude.{slice_set}
use Rattle.board.specs.Boards.{Board}
use Rattle.board.specs.Valid.{IsBoard}
use Rattle.seq_program.specs.declared.instr.Instr.{Instr}
use Rattle.seq_program.specs.declared.instr.Instr.TheVariants as instr
use Rattle.seq_program.specs.Valid.{IsInstr}
use Rattle.simulator.specs.Moves.{passes}
use Rattle.facts.specs.declared.duties.rule.Rule.TheVariants.{K1}
use Rattle.facts.specs.declared.domain.source.Source.TheVariants as source
use Rattle.facts.specs.declared.domain.span.Span.{Span}
use Rattle.facts.specs.domain.Rows.{Row, span_at, source_at}
use Rattle.seq_program.specs.Requests.{Request, request_in}
use Rattle.facts.specs.duties.Duties.{one, Meets, MeetsSent}
use Rattle.facts.specs.transfer.Edges.{Edge, edge, edge_if, edges_of, other_edges, effect_of, edges}
use Rattle.facts.specs.transfer.Edges.{done_row}
use Rattle.facts.specs.transfer.Edges.{else_row, with_reg, a_byte, plus, above, up_to, one_off}
use Rattle.facts.specs.transfer.Edges.{reg_in}
use Rattle.facts.specs.transfer.Edges.{counter_in, with_counter, taken_off, is_possible}
use Rattle.facts.specs.transfer.Edges.{if_may_jump}
use Rattle.facts.specs.transfer.Edges.{if_jump_row, if_may_go_on, if_next_row}
use Rattle.facts.proofs.Shared.EdgeLists.{HasEdge}
use Rattle.facts.specs.FactLaws.{IsShaped}
use Rattle.facts.proofs.Covered.Follows.{has_either, has_if, has_possible}
use Rattle.facts.proofs.Covered.MessageEdges.{FitsRequest, fits_sent, fits_effect}
use Rattle.facts.proofs.Covered.Shapes.{reg_shaped, spans_shaped, counter_shaped}
use Rattle.facts.proofs.Covered.ShapedEdges.{known_effect, done_shaped, else_shaped}
use Rattle.facts.proofs.Covered.ShapedIfs.{keep_shaped, jump_shaped}

-- what holds of each edge of a list holds of one of them
pub one_has : (P : Edge → Type 0) (to : ℕ) (row : Row) (x : Edge) → P (edge to row)
    → HasEdge (edge to row ∷ []) x → P x
one_has P to row x k (inl e) = subst P (sym e) k
one_has P to row x k (inr h) = absurd h

pub two_have : (P : Edge → Type 0) (to to' : ℕ) (row row' : Row) (x : Edge) → P (edge to row)
    → P (edge to' row')
    → HasEdge (edge to row ∷ edge to' row' ∷ []) x → P x
two_have P to to' row row' x k k' (inl e) = subst P (sym e) k
two_have P to to' row row' x k k' (inr h) = one_has P to' row' x k' h

pub ifs_have : (P : Edge → Type 0) (c d : Bool) (to to' : ℕ) (row row' : Row) (x : Edge)
    → (c ≡ true → P (edge to row)) → (d ≡ true → P (edge to' row'))
    → HasEdge (edge_if c to row ++ edge_if d to' row') x → P x
ifs_have P c d to to' row row' x k k' h = go (has_either (edge_if c to row) (edge_if d to' row')
    x h)
  where
    go : HasEdge (edge_if c to row) x ⊎ HasEdge (edge_if d to' row') x → P x
    go (inl l) = let z = has_if c to row x l in subst P (sym z.1) (k z.0)
    go (inr l) = let z = has_if d to' row' x l in subst P (sym z.1) (k' z.0)

abbrev pub HasShaped : Board → Edge → Type 0
HasShaped b e = IsShaped b e.row

other_shaped : (b : Board) (place : ℕ) (i : Instr) (row : Row) (x : Edge) → IsInstr i
    → IsShaped b row
    → HasEdge (other_edges place i row) x → IsShaped b x.row
other_shaped b place (instr.Alert r l) row x f k h =
    two_have (HasShaped b) (place + 1) l (with_reg row r a_byte source.None) row x
    (reg_shaped b row r a_byte source.None k f (omega arith, omega arith) tt) k h
other_shaped b place (instr.IfAlert l) row x f k h =
    two_have (HasShaped b) l (place + 1) row row x k k h
other_shaped b place (instr.Set r v) row x f k h =
    one_has (HasShaped b) (place + 1) (with_reg row r (one v) source.None) x
    (reg_shaped b row r (one v) source.None k f.0 (omega arith, omega (arith, f.1)) tt) h
other_shaped b place (instr.Add r v) row x f k h =
    let sum = plus (span_at row.regs r) v in
    one_has (HasShaped b) (place + 1) (with_reg row r sum source.None) x
    (reg_shaped b row r sum source.None k f.0 (omega (arith, k.regs r f.0), omega arith) tt) h
other_shaped b place (instr.If r m v l) row x f k h =
    let jumps = if_may_jump (span_at row.regs r) m v in
    let goes = if_may_go_on (span_at row.regs r) m v in
    let p = has_possible row r (edge_if jumps l (if_jump_row row r m v)
    ++ edge_if goes (place + 1) (if_next_row row r m v)) x h in
    ifs_have (λ y. is_possible y.row (source_at row.sources r) ≡ true → IsShaped b y.row) jumps
    goes l (place + 1)
    (if_jump_row row r m v) (if_next_row row r m v) x
    (λ _ left. jump_shaped b row r m v k f.0 (omega (arith, f.2)) left)
    (λ _ left. keep_shaped b row (source_at row.sources r) (λ y. not (passes y m v)) k
    (k.sources r f.0) left) p.0 p.1
other_shaped b place (instr.Above r v l) row x f k h =
    let s = span_at row.regs r in
    let order = k.regs r f.0 in
    let range = k.reg_range r f.0 in
    ifs_have (HasShaped b) (nat_lt v s.hi) (nat_le s.lo v) l (place + 1)
    (reg_in row r (above s v)) (reg_in row r (up_to s v)) x
    (λ e. spans_shaped b row r (above s v) k f.0
    (let z : v < s.hi = ltb-true v s.hi e in omega (arith, z, order), range))
    (λ e. spans_shaped b row r (up_to s v) k f.0
    (let z : s.lo ≤ v = leb-true s.lo v e in omega (arith, z, order), omega (arith, range))) h
other_shaped b place (instr.Count c v) row x f k h =
    one_has (HasShaped b) (place + 1) (with_counter row c v) x
    (counter_shaped b row c (one v) (row.base + slice_index row.coeffs c * Span.lo
    (span_at row.counters c))
    (slice_set row.coeffs c 0) k f.0 (omega arith, f.1)) h
other_shaped b place (instr.Again c l) row x f k h =
    let s = span_at row.counters c in
    let order = k.counters c f in
    ifs_have (HasShaped b) (nat_le 1 s.hi) (s.lo == 0) l (place + 1) (taken_off row c)
    (counter_in row c (one 0)) x
    (λ e. counter_shaped b row c (one_off s) (row.base + slice_index row.coeffs c) row.coeffs k f
    (let y : 1 ≤ s.hi = leb-true 1 s.hi e in omega (arith, y, order.0), omega (arith, order.1)))
    (λ _. counter_shaped b row c (one 0) row.base row.coeffs k f (omega arith, omega arith)) h
other_shaped b place (instr.Wait t) row x f k h = one_has (HasShaped b) (place + 1) row x k h
other_shaped b place (instr.Goto l) row x f k h = one_has (HasShaped b) l row x k h
other_shaped b place instr.End row x f k h = absurd h
other_shaped b place instr.Fail row x f k h = absurd h
other_shaped b place (instr.Quick t read l) row x f k h = absurd h
other_shaped b place (instr.Send t c l) row x f k h = absurd h
other_shaped b place (instr.Receive t r l) row x f k h = absurd h
other_shaped b place (instr.Write t c v l) row x f k h = absurd h
other_shaped b place (instr.Read t c w r l) row x f k h = absurd h
other_shaped b place (instr.Call t c v r l) row x f k h = absurd h
other_shaped b place (instr.BlockWrite t c bytes l) row x f k h = absurd h
other_shaped b place (instr.BlockRead t c r l) row x f k h = absurd h
other_shaped b place (instr.BlockCall t c bytes r l) row x f k h = absurd h

of_shaped : (b : Board) (place : ℕ) (i : Instr) (row : Row) (o : Option Request) (x : Edge)
    → IsBoard b → IsInstr i
    → IfSome o (λ s. FitsRequest s.transaction) → IsShaped b row → MeetsSent b row o K1
    → HasEdge (edges_of b place i row o) x → IsShaped b x.row
of_shaped b place i row None x board fits fits' k duty h = other_shaped b place i row x fits k h
of_shaped b place i row (Some s) x board fits fits' k duty h =
    let e = effect_of s.transaction in
    let known = known_effect duty.target s.transaction duty.known in
    two_have (HasShaped b) (place + 1) s.otherwise (done_row b row s.target s.transaction e)
    (else_row b row s.target e) x
    (done_shaped b row s.target s.transaction e board k duty
    (fits_effect s.transaction fits') known)
    (else_shaped b row s.target s.transaction e k duty known) h

pub own_edges_shaped : (b : Board) (place : ℕ) (i : Instr) (row : Row) (e : Edge) → IsBoard b
    → IsInstr i → IsShaped b row → Meets b row i K1 → HasEdge (edges b place i row) e
    → IsShaped b e.row
own_edges_shaped b place i row e board fits k duty h =
    of_shaped b place i row (request_in i) e board fits (fits_sent i fits) k duty h
