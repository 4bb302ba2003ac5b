-- The edges of `if` from a row that covers another cover the other's.
use Rattle.std.proofs.Common.{◌≡◌, ℕ, ◌+◌, ◌<◌, ◌≤◌, List, ◌++◌, refl, ap, sym, ◌∙◌, arith, Bool}
use Rattle.std.proofs.Common.{true, false, not, ◌&&◌, cond}
use Rattle.std.proofs.lemmas.Bool.{eqb-true, eq-eqb, and_parts, and_from, cond-true, cond_both}
use Rattle.std.proofs.lemmas.Bool.{leb-true, le-leb}
use Rattle.std.specs.Prelude.{slice_set, ◌==◌, nat_le}
use Rattle.board.specs.Boards.{Board}
use Rattle.seq_program.specs.declared.instr.Instr.TheVariants as instr
use Rattle.simulator.specs.Moves.{passes}
use Rattle.facts.specs.declared.domain.span.Span.{Span}
use Rattle.facts.specs.domain.Rows.{Row, span_at, source_at, SpanCovers, SpansCover, RowCovers}
use Rattle.facts.specs.duties.Duties.{one}
use Rattle.facts.specs.transfer.Edges.{edge_if, if_may_jump, if_jump_row, if_may_go_on, if_next_row}
use Rattle.facts.specs.transfer.Edges.{is_single, in_span, all_bits, good_bits, other_edges}
use Rattle.facts.specs.FactLaws.{Wider}
use Rattle.facts.proofs.Covered.Follows.{OwnEdgesCover}
use Rattle.facts.proofs.Covered.Covers.{SpansCover-set, SpansCover-at}
use Rattle.facts.proofs.Covered.IfEdges.{informed, informed_covers, kept_covers, follows_possible}
use Rattle.facts.proofs.Covered.Follows.{follows_append, follows_if}

-- a test of a single span
single_kept : (x y : Span) (p : ℕ → Bool) → SpanCovers x y → y.lo ≤ y.hi
    → (cond (is_single y) (p y.lo) true) ≡ true → (cond (is_single x) (p x.lo) true) ≡ true
single_kept x y p c order h = cond_both (is_single x) (p x.lo) true (λ z. z ≡ true) one (λ _. refl)
  where
    one : is_single x ≡ true → p x.lo ≡ true
    one e =
        let same : x.lo ≡ x.hi = eqb-true x.lo x.hi e in
        let low : x.lo ≡ y.lo = omega (arith, c.0, c.1, order, same) in
        let alone : is_single y ≡ true = eq-eqb y.lo y.hi (omega (arith, c.0, c.1, order, same)) in
        ap p low ∙ (sym (cond-true (is_single y) (p y.lo) true alone) ∙ h)

may_jump_kept : (x y : Span) (k v : ℕ) → SpanCovers x y → y.lo ≤ y.hi → if_may_jump y k v ≡ true
    → if_may_jump x k v ≡ true
may_jump_kept x y k v c order h =
    let a = and_parts (passes v k v) (cond (is_single y) (passes y.lo k v) true && cond
    (k == all_bits) (in_span y v) true) h in
    let d = and_parts (cond (is_single y) (passes y.lo k v) true)
    (cond (k == all_bits) (in_span y v) true) a.1 in
    and_from (passes v k v) _ a.0 (and_from (cond (is_single x) (passes x.lo k v) true) _
    (single_kept x y (λ z. passes z k v) c order d.0)
    (cond_both (k == all_bits) (in_span x v) true (λ z. z ≡ true)
    (λ e. inside (sym (cond-true (k == all_bits) (in_span y v) true e) ∙ d.1)) (λ _. refl)))
  where
    inside : in_span y v ≡ true → in_span x v ≡ true
    inside e =
        let p = and_parts (nat_le y.lo v) (nat_le v y.hi) e in
        let low : y.lo ≤ v = leb-true y.lo v p.0 in
        let high : v ≤ y.hi = leb-true v y.hi p.1 in
        and_from (nat_le x.lo v) (nat_le v x.hi) (le-leb x.lo v (omega (arith, c.0, low)))
        (le-leb v x.hi (omega (arith, c.1, high)))

may_go_on_kept : (x y : Span) (k v : ℕ) → SpanCovers x y → y.lo ≤ y.hi
    → if_may_go_on y k v ≡ true → if_may_go_on x k v ≡ true
may_go_on_kept x y k v c order h =
    let a = and_parts (cond (is_single y) (not (passes y.lo k v)) true)
    (not ((k == 0) && (v == 0))) h in
    and_from (cond (is_single x) (not (passes x.lo k v)) true) _
    (single_kept x y (λ z. not (passes z k v)) c order a.0) a.1

pub regs_covers : (b : Board) (s u : Row) (ss us : List Span) → RowCovers b s u
    → SpansCover ss us → RowCovers b (record s { regs = ss }) (record u { regs = us })
regs_covers b s u ss us c k = record {
  pages = c.pages;
  protects = c.protects;
  good = c.good;
  regs = k;
  sources = c.sources;
  counters = c.counters;
  lost = c.lost;
}

both_rows : (b : Board) (c : Bool) (x y x' y' : Row) → RowCovers b x x' → RowCovers b y y'
    → RowCovers b (cond c x y) (cond c x' y')
both_rows b true x y x' y' h k = h
both_rows b false x y x' y' h k = k

pub if_follows : (b : Board) (p : ℕ) (s u : Row) (r k v l : ℕ) → Wider b s u → r < 8
    → OwnEdgesCover b (other_edges p (instr.If r k v l) s) (other_edges p (instr.If r k v l) u)
if_follows b p s u r k v l w lt =
    let spans : SpanCovers (span_at s.regs r) (span_at u.regs r) =
    SpansCover-at s.regs u.regs r w.covers.regs in
    let order = w.right.regs r lt in
    let there = w.right.sources r lt in
    let sources = w.covers.sources r in
    let f = source_at s.sources r in
    let g = source_at u.sources r in
    let shows = passes k good_bits good_bits && passes v good_bits 0 in
    let known = informed_covers b s u f g (λ x. passes x k v) shows w there sources in
    follows_possible b s u r
    (edge_if (if_may_jump (span_at s.regs r) k v) l (if_jump_row s r k v) ++ edge_if
    (if_may_go_on (span_at s.regs r) k v) (p + 1) (if_next_row s r k v))
    (edge_if (if_may_jump (span_at u.regs r) k v) l (if_jump_row u r k v) ++ edge_if
    (if_may_go_on (span_at u.regs r) k v) (p + 1) (if_next_row u r k v))
    there w.covers
    (follows_append b _ (edge_if (if_may_go_on (span_at s.regs r) k v) (p + 1)
    (if_next_row s r k v)) _ (edge_if (if_may_go_on (span_at u.regs r) k v) (p + 1)
    (if_next_row u r k v))
    (follows_if b (if_may_jump (span_at s.regs r) k v) (if_may_jump (span_at u.regs r) k v) l
    (if_jump_row s r k v) (if_jump_row u r k v)
    (may_jump_kept (span_at s.regs r) (span_at u.regs r) k v spans order)
    (λ _. both_rows b (k == all_bits) _ (informed s f (λ x. passes x k v) shows) _
    (informed u g (λ x. passes x k v) shows)
    (regs_covers b (informed s f (λ x. passes x k v) shows)
    (informed u g (λ x. passes x k v) shows)
    (slice_set s.regs r (one v)) (slice_set u.regs r (one v)) known
    (SpansCover-set s.regs u.regs r (one v) (one v) w.covers.regs
    (omega arith, omega arith)))
    known))
    (follows_if b (if_may_go_on (span_at s.regs r) k v) (if_may_go_on (span_at u.regs r) k v)
    (p + 1) (if_next_row s r k v) (if_next_row u r k v)
    (may_go_on_kept (span_at s.regs r) (span_at u.regs r) k v spans order)
    (λ _. kept_covers b s u f g (λ x. not (passes x k v)) w there sources)))
