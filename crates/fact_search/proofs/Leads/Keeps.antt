-- Ticks without coefficients: an edge's row has the ticks of its place.
use Rattle.std.proofs.Common.{◌≡◌, ℕ, zero, suc, ◌+◌, ◌*◌, ◌<◌, List, [], ◌∷◌, ◌++◌, refl, ap, ◌∙◌}
use Rattle.std.proofs.Common.{arith, Bool, true, false, not, ◌&&◌}
use Rattle.std.proofs.lemmas.Bool.{cond_both}
use Rattle.std.specs.Prelude.{slice_set, slice_index, replicate, ◌==◌, nat_le, nat_lt, Option}
use Rattle.std.specs.Prelude.{Some, None}
use Rattle.board.specs.Boards.{Board}
use Rattle.seq_program.specs.declared.instr.Instr.{Instr}
use Rattle.seq_program.specs.declared.instr.Instr.TheVariants as instr
use Rattle.seq_program.specs.Valid.{IsInstr}
use Rattle.simulator.specs.Moves.{passes}
use Rattle.facts.specs.declared.domain.source.Source.{Source}
use Rattle.facts.specs.declared.domain.source.Source.TheVariants as source
use Rattle.facts.specs.declared.domain.span.Span.{Span}
use Rattle.facts.specs.domain.Rows.{Row, source_at, span_at, weight, rank}
use Rattle.seq_program.specs.Requests.{Transaction, Request, request_in}
use Rattle.facts.specs.transfer.Edges.{Edge, edges, edges_of, other_edges, edge_if, Effect}
use Rattle.facts.specs.transfer.Edges.{SetsPage}
use Rattle.facts.specs.transfer.Edges.{SetsProtect, TurnsOff, ReadsStatus, ReadsPage, ReadsProtect}
use Rattle.facts.specs.transfer.Edges.{Loads}
use Rattle.facts.specs.transfer.Edges.{Nothing, effect_of, done_row, else_row, keep, learn_good}
use Rattle.facts.specs.transfer.Edges.{if_may_jump, if_jump_row, if_may_go_on, if_next_row}
use Rattle.facts.specs.transfer.Edges.{all_bits, lost_row}
use Rattle.facts.specs.transfer.Edges.{good_bits, with_counter, taken_off, counter_in}
use Rattle.facts.specs.duties.Duties.{one}
use Rattle.fact_search.specs.declared.loops.Ticks.{Ticks}
use Rattle.fact_search.proofs.Leads.Has.{HasEdge, has_possible, one_has, two_have, ifs_have}

abbrev pub none : List ℕ
none = replicate 4 0

-- the ticks of a row, without coefficients of counters
abbrev pub Keeps : Ticks → Row → Type 0
Keeps n row = (row.base ≡ n.base) × (row.coeffs ≡ none) × (row.lost_coeff ≡ n.lost)

abbrev pub EdgeKeeps : Ticks → Edge → Type 0
EdgeKeeps n e = Keeps n e.row

done_keeps : (b : Board) (row : Row) (t : ℕ) (n : Ticks) (w : Transaction) (e : Effect)
    → Keeps n row
    → Keeps n (done_row b row t w e)
done_keeps b row t n w (SetsPage v) k = k
done_keeps b row t n w (SetsProtect v) k = k
done_keeps b row t n w TurnsOff k = k
done_keeps b row t n w (ReadsStatus r) k = k
done_keeps b row t n w (ReadsPage r) k = k
done_keeps b row t n w (ReadsProtect r) k = k
done_keeps b row t n w (Loads r) k = k
done_keeps b row t n w Nothing k = k

else_keeps : (b : Board) (row : Row) (t : ℕ) (n : Ticks) (e : Effect) → Keeps n row
    → Keeps n (else_row b row t e)
else_keeps b row t n (SetsPage v) k = k
else_keeps b row t n (SetsProtect v) k = k
else_keeps b row t n TurnsOff k = k
else_keeps b row t n (ReadsStatus r) k = k
else_keeps b row t n (ReadsPage r) k = k
else_keeps b row t n (ReadsProtect r) k = k
else_keeps b row t n (Loads r) k = k
else_keeps b row t n Nothing k = k

keep_keeps : (n : Ticks) (row : Row) (s : Source) (p : ℕ → Bool) → Keeps n row
    → Keeps n (keep row s p)
keep_keeps n row source.None p k = k
keep_keeps n row (source.Status d) p k = k
keep_keeps n row (source.Page t) p k = k
keep_keeps n row (source.Protect t) p k = k

learn_keeps : (n : Ticks) (row : Row) (s : Source) (shows : Bool) → Keeps n row
    → Keeps n (learn_good row s shows)
learn_keeps n row source.None shows k = k
learn_keeps n row (source.Page t) shows k = k
learn_keeps n row (source.Protect t) shows k = k
learn_keeps n row (source.Status d) true k = k
learn_keeps n row (source.Status d) false k = k

jump_keeps : (n : Ticks) (row : Row) (r k v : ℕ) → Keeps n row → Keeps n (if_jump_row row r k v)
jump_keeps n row r k v h =
    let s = source_at row.sources r in
    let shows = passes k good_bits good_bits && passes v good_bits 0 in
    let known = learn_keeps n (keep row s (λ x. passes x k v)) s shows
    (keep_keeps n row s (λ x. passes x k v) h) in
    cond_both (k == all_bits) _ (learn_good (keep row s (λ x. passes x k v)) s shows)
    (λ z. Keeps n z) (λ _. known) (λ _. known)

-- a coefficient that is 0
pub none_at : (ks : List ℕ) (c : ℕ) → ks ≡ none → c < 4 → slice_index ks c ≡ 0
none_at ks zero e lt = ap (λ l. slice_index l 0) e
none_at ks (suc zero) e lt = ap (λ l. slice_index l 1) e
none_at ks (suc (suc zero)) e lt = ap (λ l. slice_index l 2) e
none_at ks (suc (suc (suc zero))) e lt = ap (λ l. slice_index l 3) e
none_at ks (suc (suc (suc (suc c)))) e lt = absurd (omega arith)

pub none_set : (ks : List ℕ) (c : ℕ) → ks ≡ none → c < 4 → slice_set ks c 0 ≡ none
none_set ks zero e lt = ap (λ l. slice_set l 0 0) e
none_set ks (suc zero) e lt = ap (λ l. slice_set l 1 0) e
none_set ks (suc (suc zero)) e lt = ap (λ l. slice_set l 2 0) e
none_set ks (suc (suc (suc zero))) e lt = ap (λ l. slice_set l 3 0) e
none_set ks (suc (suc (suc (suc c)))) e lt = absurd (omega arith)

other_keeps : (b : Board) (place : ℕ) (i : Instr) (row : Row) (n : Ticks) (x : Edge) → IsInstr i
    → Keeps n row
    → HasEdge (other_edges place i row) x → Keeps n x.row
other_keeps b place (instr.Alert r l) row n x f k h =
    two_have (EdgeKeeps n) (place + 1) l _ row x k k h
other_keeps b place (instr.IfAlert l) row n x f k h =
    two_have (EdgeKeeps n) l (place + 1) row row x k k h
other_keeps b place (instr.Set r v) row n x f k h = one_has (EdgeKeeps n) (place + 1) _ x k h
other_keeps b place (instr.Add r v) row n x f k h = one_has (EdgeKeeps n) (place + 1) _ x k h
other_keeps b place (instr.If r m v l) row n x f k h =
    let jumps = if_may_jump (span_at row.regs r) m v in
    let goes = if_may_go_on (span_at row.regs r) m v in
    ifs_have (EdgeKeeps n) jumps goes l (place + 1) (if_jump_row row r m v)
    (if_next_row row r m v) x
    (λ _. jump_keeps n row r m v k) (λ _. keep_keeps n row (source_at row.sources r)
    (λ y. not (passes y m v)) k)
    (has_possible row r (edge_if jumps l (if_jump_row row r m v) ++ edge_if goes (place + 1)
    (if_next_row row r m v)) x h).0
other_keeps b place (instr.Above r v l) row n x f k h =
    ifs_have (EdgeKeeps n) (nat_lt v (Span.hi (span_at row.regs r)))
    (nat_le (Span.lo (span_at row.regs r)) v) l (place + 1)
    _ _ x (λ _. k) (λ _. k) h
other_keeps b place (instr.Count c v) row n x f k h =
    let low = Span.lo (span_at row.counters c) in
    let z : slice_index row.coeffs c * low ≡ 0 * low =
    ap (λ y. y * low) (none_at row.coeffs c k.1 f.0) in
    one_has (EdgeKeeps n) (place + 1) (with_counter row c v) x
    (omega (arith, k.0, z), none_set row.coeffs c k.1 f.0, k.2) h
other_keeps b place (instr.Again c l) row n x f k h =
    let s = span_at row.counters c in
    ifs_have (EdgeKeeps n) (nat_le 1 s.hi) (s.lo == 0) l (place + 1) (taken_off row c)
    (counter_in row c (one 0)) x
    (λ _. (omega (arith, k.0, none_at row.coeffs c k.1 f), k.1, k.2)) (λ _. k) h
other_keeps b place (instr.Wait t) row n x f k h = one_has (EdgeKeeps n) (place + 1) row x k h
other_keeps b place (instr.Goto l) row n x f k h = one_has (EdgeKeeps n) l row x k h
other_keeps b place instr.End row n x f k h = absurd h
other_keeps b place instr.Fail row n x f k h = absurd h
other_keeps b place (instr.Quick t read l) row n x f k h = absurd h
other_keeps b place (instr.Send t c l) row n x f k h = absurd h
other_keeps b place (instr.Receive t r l) row n x f k h = absurd h
other_keeps b place (instr.Write t c v l) row n x f k h = absurd h
other_keeps b place (instr.Read t c w r l) row n x f k h = absurd h
other_keeps b place (instr.Call t c v r l) row n x f k h = absurd h
other_keeps b place (instr.BlockWrite t c bytes l) row n x f k h = absurd h
other_keeps b place (instr.BlockRead t c r l) row n x f k h = absurd h
other_keeps b place (instr.BlockCall t c bytes r l) row n x f k h = absurd h

of_keeps : (b : Board) (place : ℕ) (i : Instr) (row : Row) (o : Option Request) (n : Ticks)
    (x : Edge)
    → IsInstr i
    → Keeps n row → HasEdge (edges_of b place i row o) x → Keeps n x.row
of_keeps b place i row None n x f k h = other_keeps b place i row n x f k h
of_keeps b place i row (Some s) n x f k h =
    let e = effect_of s.transaction in
    two_have (EdgeKeeps n) (place + 1) s.otherwise (done_row b row s.target s.transaction e)
    (else_row b row s.target e) x
    (done_keeps b row s.target n s.transaction e k) (else_keeps b row s.target n e k) h

pub edge_keeps : (b : Board) (place : ℕ) (i : Instr) (row : Row) (n : Ticks) (x : Edge)
    → IsInstr i
    → Keeps n row
    → HasEdge (edges b place i row) x → Keeps n x.row
edge_keeps b place i row n x f k h = of_keeps b place i row (request_in i) n x f k h

weight_none : (ks cs : List ℕ) → ks ≡ none → weight ks cs ≡ 0
weight_none ks cs e = ap (λ l. weight l cs) e ∙ zeros 4 cs
  where
    zeros : (m : ℕ) (cs : List ℕ) → weight (replicate m 0) cs ≡ 0
    zeros zero cs = refl
    zeros (suc m) [] = refl
    zeros (suc m) (c ∷ cs) = omega (arith, zeros m cs)

pub rank_none : (n : Ticks) (row : Row) (cs : List ℕ) (left : ℕ) → Keeps n row
    → rank row cs left ≡ n.base + n.lost * left
rank_none n row cs left k =
    let paid : row.lost_coeff * left ≡ n.lost * left = ap (λ m. m * left) k.2 in
    omega (arith, k.0, weight_none row.coeffs cs k.1, paid)

-- a lost arbitration pays its coefficient
pub lost_keeps : (b : Board) (row : Row) (n : Ticks) → Keeps n row
    → Keeps (record n { base = n.base + n.lost }) (lost_row b row)
lost_keeps b row n k = (omega (arith, k.0, k.2), k.1, k.2)
