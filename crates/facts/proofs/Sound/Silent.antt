-- Steps that send nothing: the edges that they take, and `again`.
use Rattle.std.proofs.Common.{◌≡◌, ℕ, suc, ◌+◌, ◌-◌, ◌*◌, ◌<◌, ◌≤◌, ◌⊎◌, List, [], ◌∷◌, ◌++◌}
use Rattle.std.proofs.Common.{length, refl, ap, sym, ◌∙◌, subst, inl, inr, arith, Bool, true, false}
use Rattle.std.proofs.Common.{cond}
use Rattle.std.proofs.lemmas.Bool.{eq-eqb, cases_Bool, cond-true, cond-false, le-leb, ltb-true}
use Rattle.std.proofs.lemmas.Bool.{ltb-false, false≢true}
use Rattle.std.specs.Prelude.{slice_index, slice_index_or, slice_set, ◌==◌, nat_le, nat_lt}
use Rattle.board.specs.Boards.{Board}
use Rattle.targets.specs.States.{BusState}
use Rattle.seq_program.specs.declared.instr.Instr.{Instr}
use Rattle.seq_program.specs.declared.instr.Instr.TheVariants.{Again}
use Rattle.simulator.specs.Machines.{Machine, Entry}
use Rattle.simulator.specs.Moves.{silently}
use Rattle.facts.specs.declared.domain.source.Source.{Source}
use Rattle.facts.specs.declared.domain.source.Source.TheVariants as source
use Rattle.facts.specs.declared.domain.span.Span.{Span}
use Rattle.facts.specs.domain.Sets.{Set, empty}
use Rattle.facts.specs.domain.Rows.{Row, Admits, IsFrom, InSpan, InSpans, span_at, weight, rank}
use Rattle.facts.specs.transfer.Edges.{Edge, edge, edges, edge_if, counter_in, taken_off, one_off}
use Rattle.facts.specs.duties.Duties.{one}
use Rattle.facts.proofs.Shared.EdgeLists.{HasEdge}
use Rattle.facts.proofs.Sound.OwnLeads.{LeadsOwn}
use Rattle.facts.proofs.Sound.RowChanges.{Change, admits_same}
use Rattle.facts.proofs.Shared.Lists.{InSpans-set, InSpans-at, InSpans-length, weight-set}

pub HasEdge-append : (xs ys : List Edge) (x : Edge) → HasEdge ys x → HasEdge (xs ++ ys) x
HasEdge-append [] ys x k = k
HasEdge-append (e ∷ xs) ys x k = inr (HasEdge-append xs ys x k)

pub HasEdge-front : (xs ys : List Edge) (x : Edge) → HasEdge xs x → HasEdge (xs ++ ys) x
HasEdge-front [] ys x k = absurd k
HasEdge-front (e ∷ xs) ys x (inl k) = inl k
HasEdge-front (e ∷ xs) ys x (inr k) = inr (HasEdge-front xs ys x k)

pub HasEdge-if : (c : Bool) (to : ℕ) (row : Row) → c ≡ true
    → HasEdge (edge_if c to row) (edge to row)
HasEdge-if true to row e = inl refl
HasEdge-if false to row e = absurd (false≢true e)

pub same_rank : (row : Row) (xs ys : List ℕ) → ys ≡ xs → (left : ℕ)
    → rank row ys left ≤ rank row xs left
same_rank row xs ys e left =
    let P : List ℕ → Type 0 = λ l. rank row l left ≤ rank row xs left in
    subst P (sym e) (omega arith)

-- an edge on which nothing changes
pub leads_same : (b : Board) (place to : ℕ) (i : Instr) (row : Row) (m : Machine) (h : List Entry)
    (m' : Machine) (h' : List Entry)
    → Admits b row m h → Change b m h m' h' empty empty empty
    → HasEdge (edges b place i row) (edge to row)
    → m'.place ≡ to → m'.regs ≡ m.regs → m'.counters ≡ m.counters
    → LeadsOwn b place i row m m' h'
leads_same b place to i row m h m' h' k c there at' regs counters = record {
  by = edge to row;
  there = there;
  to = at';
  admits = admits_same b row m h m' h' k c regs counters;
  falls = same_rank row m.counters m'.counters counters;
}

-- a counter gets a value
pub admits_counter : (b : Board) (row : Row) (m : Machine) (h : List Entry) (m' : Machine)
    (h' : List Entry)
    (r' : Row) (c : ℕ) (s : Span) (x : ℕ)
    → Admits b row m h → Change b m h m' h' empty empty empty → m'.regs ≡ m.regs
    → m'.counters ≡ slice_set m.counters c x
    → (s.lo ≤ x) × (x ≤ s.hi)
    → r'.pages ≡ row.pages → r'.protects ≡ row.protects → r'.good ≡ row.good → r'.regs ≡ row.regs
    → r'.sources ≡ row.sources → r'.counters ≡ slice_set row.counters c s
    → r'.lost ≡ row.lost
    → Admits b r' m' h'
admits_counter b row m h m' h' r' c s x k ch regs counters inside e1 e2 e3 e4 e5 e6 e7 =
    let old = admits_same b row m h (record m' { counters = m.counters }) h' k
    (record { pages = ch.pages; protects = ch.protects; reports = ch.reports; lost = ch.lost }) regs
    refl in
    record {
      pages = λ u at'.
          ap (λ (l : List Set). slice_index_or l u empty (slice_index m'.bus.page u)) e1
          ∙ old.pages u at';
      protects = λ u at'.
          ap (λ (l : List Set). slice_index_or l u empty (slice_index m'.bus.protect u)) e2
          ∙ old.protects u at';
      regs = let P : List Span → Type 0 = λ l. InSpans l m'.regs in subst P (sym e4) old.regs;
      sources = λ r lt. let P : List Source → Type 0 =
          λ l. IsFrom b m' h' (slice_index_or l r source.None) (slice_index m'.regs r) in
          subst P (sym e5) (moved (slice_index_or row.sources r source.None) (slice_index m'.regs r)
          (old.sources r lt));
      counters = let P : List Span → Type 0 = λ l. InSpans l m'.counters in let Q : List ℕ
          → Type 0 = λ l. InSpans (slice_set row.counters c s) l in
          subst P (sym e6)
          (subst Q (sym counters) (InSpans-set row.counters m.counters c s x k.counters
          inside));
      lost = let P : Span → Type 0 = λ s. InSpan s m'.bus.lost in subst P (sym e7) old.lost;
      good = λ d at' g. old.good d at' (ap (λ (f : Set). f d) (sym e3) ∙ g);
    }
  where
    moved : (z : Source) (y : ℕ) → IsFrom b (record m' { counters = m.counters }) h' z y
        → IsFrom b m' h' z y
    moved source.None y f = tt
    moved (source.Status d) y f = f
    moved (source.Page u) y f = f
    moved (source.Protect u) y f = f

pub leads_again : (b : Board) (row : Row) (m : Machine) (h : List Entry) (m' : Machine)
    (h' : List Entry)
    (s : BusState) (c l : ℕ)
    → Admits b row m h → Change b m h m' h' empty empty empty → c < 4 → length row.counters ≡ 4
    → m' ≡ record (silently (Again c l) m) { bus = s }
    → LeadsOwn b m.place (Again c l) row m m' h'
leads_again b row m h m' h' s c l k ch lt wide goes =
    go (cases_Bool (nat_lt 0 (slice_index m.counters c)))
  where
    inside : InSpan (span_at row.counters c) (slice_index m.counters c)
    inside = InSpans-at row.counters m.counters c k.counters
        (omega (arith, InSpans-length row.counters m.counters k.counters, wide))

    have : c < length m.counters
    have = omega (arith, InSpans-length row.counters m.counters k.counters, wide)

    counters : m'.counters ≡ slice_set m.counters c (slice_index m.counters c - 1)
    counters = ap (λ (z : Machine). z.counters) goes

    regs : m'.regs ≡ m.regs
    regs = ap (λ (z : Machine). z.regs) goes

    place : m'.place ≡ cond (nat_lt 0 (slice_index m.counters c)) l (m.place + 1)
    place = ap (λ (z : Machine). z.place) goes

    weights : weight row.coeffs m'.counters + slice_index row.coeffs c * slice_index m.counters c
        ≡ weight
        row.coeffs m.counters + slice_index row.coeffs c * (slice_index m.counters c - 1)
    weights =
        ap
        (λ (z : List ℕ). weight row.coeffs z + slice_index row.coeffs c * slice_index m.counters c)
        counters ∙ weight-set row.coeffs m.counters c (slice_index m.counters c - 1) have

    up : List Edge
    up = edge_if (nat_le 1 (Span.hi (span_at row.counters c))) l (taken_off row c)

    on : List Edge
    on = edge_if (Span.lo (span_at row.counters c) == 0) (m.place + 1) (counter_in row c (one 0))

    go : (nat_lt 0 (slice_index m.counters c) ≡ true)
        ⊎ (nat_lt 0 (slice_index m.counters c) ≡ false)
        → LeadsOwn b m.place (Again c l) row m m' h'
    go (inr e) =
        let zero' : slice_index m.counters c ≤ 0 = ltb-false 0 (slice_index m.counters c) e in
        let next : Row = counter_in row c (one 0) in
        let low : Span.lo (span_at row.counters c) ≡ 0 = omega (arith, inside.0, zero') in
        record {
          by = edge (m.place + 1) next;
          there = HasEdge-append up on (edge (m.place + 1) next)
              (HasEdge-if (Span.lo (span_at row.counters c) == 0) (m.place + 1) next
              (eq-eqb _ _ low));
          to = place ∙ cond-false (nat_lt 0 (slice_index m.counters c)) l (m.place + 1) e;
          admits =
              admits_counter b row m h m' h' next c (one 0) (slice_index m.counters c - 1) k ch regs
              counters (omega arith, omega (arith, zero')) refl refl refl refl refl refl refl;
          falls = λ left.
              let z : slice_index row.coeffs c * slice_index m.counters c
              ≡ slice_index row.coeffs c *
              (slice_index m.counters c - 1) = ap (λ n. slice_index row.coeffs c * n)
              (let q : slice_index m.counters c ≡ slice_index m.counters c - 1 =
              omega (arith, zero') in
              q) in omega (arith, weights, z);
        }
    go (inl e) =
        let more : 0 < slice_index m.counters c = ltb-true 0 (slice_index m.counters c) e in
        let next : Row = taken_off row c in
        record {
          by = edge l next;
          there = HasEdge-front up on (edge l next)
              (HasEdge-if (nat_le 1 (Span.hi (span_at row.counters c))) l next
              (le-leb 1 _ (omega (arith, inside.1, more))));
          to = place ∙ cond-true (nat_lt 0 (slice_index m.counters c)) l (m.place + 1) e;
          admits = admits_counter b row m h m' h' next c (one_off (span_at row.counters c))
              (slice_index m.counters c - 1) k ch regs counters
              (omega (arith, inside.0, more), omega (arith, inside.1)) refl refl refl refl refl
              refl refl;
          falls = λ left.
              let q : slice_index row.coeffs c * slice_index m.counters c
              ≡ slice_index row.coeffs c *
              (slice_index m.counters c - 1) + slice_index row.coeffs c
              = (let d : slice_index m.counters c ≡ suc (slice_index m.counters c - 1) =
              omega (arith, more) in ap (λ n. slice_index row.coeffs c * n) d ∙ omega arith) in
              omega (arith, weights, q);
        }
