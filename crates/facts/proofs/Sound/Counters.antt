-- Steps that send nothing and change a register or a counter.
use Rattle.std.proofs.Common.{◌≡◌, ℕ, ◌+◌, ◌*◌, ◌<◌, ◌≤◌, ◌⊎◌, List, length, refl, ap, sym, ◌∙◌}
use Rattle.std.proofs.Common.{subst, inl, inr, arith, true, false, cond}
use Rattle.std.proofs.lemmas.Bool.{cases_Bool, cond-true, cond-false, le-leb, lt-ltb, ltb-true}
use Rattle.std.proofs.lemmas.Bool.{ltb-false}
use Rattle.std.proofs.lemmas.List.{get_or-set_same}
use Rattle.std.proofs.Math.Nat.{mul-le-mul_left}
use Rattle.std.proofs.Math.ListN.{length-set}
use Rattle.std.specs.Prelude.{slice_index, slice_set, nat_le, nat_lt, min}
use Rattle.board.specs.Boards.{Board}
use Rattle.targets.specs.States.{BusState}
use Rattle.seq_program.specs.declared.instr.Instr.{Instr}
use Rattle.seq_program.specs.declared.instr.Instr.TheVariants.{IfAlert, Set as SetRegister, Add}
use Rattle.seq_program.specs.declared.instr.Instr.TheVariants.{Above, Count}
use Rattle.simulator.specs.Machines.{Machine, Entry}
use Rattle.simulator.specs.Moves.{silently}
use Rattle.facts.specs.declared.domain.source.Source.TheVariants as source
use Rattle.facts.specs.declared.domain.span.Span.{Span}
use Rattle.facts.specs.domain.Sets.{empty}
use Rattle.facts.specs.domain.Rows.{Row, Admits, IsRow, InSpan, span_at, weight, rank}
use Rattle.facts.specs.duties.Duties.{one}
use Rattle.facts.specs.transfer.Edges.{Edge, edge, edges, edge_if, with_reg, plus, above, up_to}
use Rattle.facts.specs.transfer.Edges.{reg_in}
use Rattle.facts.specs.transfer.Edges.{with_counter}
use Rattle.facts.proofs.Shared.EdgeLists.{HasEdge}
use Rattle.facts.proofs.Sound.OwnLeads.{LeadsOwn}
use Rattle.facts.proofs.Sound.RowChanges.{Change, admits_same}
use Rattle.facts.proofs.Sound.Loads.{admits_load}
use Rattle.facts.proofs.Sound.Ifs.{admits_narrow}
use Rattle.facts.proofs.Shared.Lists.{InSpans-at, InSpans-length, weight-set, weight-drop}
use Rattle.facts.proofs.Sound.Silent.{HasEdge-append, HasEdge-front, HasEdge-if, leads_same}
use Rattle.facts.proofs.Sound.Silent.{same_rank}
use Rattle.facts.proofs.Sound.Silent.{admits_counter}

-- what the value of a register is known to lie in
pub reg_inside : (b : Board) (row : Row) (m : Machine) (h : List Entry) (r : ℕ) → IsRow b row
    → Admits b row m h → r < 8
    → (r < length m.regs) × InSpan (span_at row.regs r) (slice_index m.regs r)
reg_inside b row m h r shaped k lt =
    let wide : r < length m.regs = omega (
      arith,
      InSpans-length row.regs m.regs k.regs,
      shaped.reg_count,
      lt,
    ) in (wide, InSpans-at row.regs m.regs r k.regs wide)

pub leads_ifalert : (b : Board) (row : Row) (m : Machine) (h : List Entry) (m' : Machine)
    (h' : List Entry)
    (s : BusState) (l : ℕ)
    → Admits b row m h → Change b m h m' h' empty empty empty
    → m' ≡ record (silently (IfAlert l) m) { bus = s } → LeadsOwn b m.place (IfAlert l) row m m' h'
leads_ifalert b row m h m' h' s l k ch goes = go (cases_Bool (nat_lt 0 m.bus.alerting))
  where
    place : m'.place ≡ cond (nat_lt 0 m.bus.alerting) l (m.place + 1)
    place = ap (λ (z : Machine). z.place) goes

    go : ((nat_lt 0 m.bus.alerting) ≡ true) ⊎ ((nat_lt 0 m.bus.alerting) ≡ false)
        → LeadsOwn b m.place (IfAlert l) row m m' h'
    go (inl e) = leads_same b m.place l (IfAlert l) row m h m' h' k ch (inl refl)
        (place ∙ cond-true _ l (m.place + 1) e) (ap (λ (z : Machine). z.regs) goes)
        (ap (λ (z : Machine). z.counters) goes)
    go (inr e) = leads_same b m.place (m.place + 1) (IfAlert l) row m h m' h' k ch (inr (inl refl))
        (place ∙ cond-false _ l (m.place + 1) e) (ap (λ (z : Machine). z.regs) goes)
        (ap (λ (z : Machine). z.counters) goes)

-- a register becomes known anew
leads_load : (b : Board) (row : Row) (m : Machine) (h : List Entry) (m' : Machine) (h' : List Entry)
    (i : Instr) (r x : ℕ) (s : Span)
    → IsRow b row → Admits b row m h → Change b m h m' h' empty empty empty → r < 8 → InSpan s x
    → HasEdge (edges b m.place i row) (edge (m.place + 1) (with_reg row r s source.None))
    → m'.place ≡ m.place + 1 → m'.counters ≡ m.counters → m'.regs ≡ slice_set m.regs r x
    → LeadsOwn b m.place i row m m' h'
leads_load b row m h m' h' i r x s shaped k ch lt inside there place counters regs = record {
  by = edge (m.place + 1) (with_reg row r s source.None);
  there = there;
  to = place;
  admits = admits_load b row m h m' h' r s source.None x shaped k ch lt inside tt counters regs;
  falls = same_rank row m.counters m'.counters counters;
}

pub leads_set : (b : Board) (row : Row) (m : Machine) (h : List Entry) (m' : Machine)
    (h' : List Entry)
    (s : BusState) (r v : ℕ)
    → IsRow b row → Admits b row m h → Change b m h m' h' empty empty empty → r < 8
    → m' ≡ record (silently (SetRegister r v) m) { bus = s }
    → LeadsOwn b m.place (SetRegister r v) row m m' h'
leads_set b row m h m' h' s r v shaped k ch lt goes =
    leads_load b row m h m' h' (SetRegister r v) r v (one v) shaped k ch lt
    (omega arith, omega arith)
    (inl refl)
    (ap (λ (z : Machine). z.place) goes) (ap (λ (z : Machine). z.counters) goes)
    (ap (λ (z : Machine). z.regs) goes)

pub leads_add : (b : Board) (row : Row) (m : Machine) (h : List Entry) (m' : Machine)
    (h' : List Entry)
    (s : BusState) (r v : ℕ)
    → IsRow b row → Admits b row m h → Change b m h m' h' empty empty empty → r < 8
    → m' ≡ record (silently (Add r v) m) { bus = s } → LeadsOwn b m.place (Add r v) row m m' h'
leads_add b row m h m' h' s r v shaped k ch lt goes =
    let inside = (reg_inside b row m h r shaped k lt).1 in
    leads_load b row m h m' h' (Add r v) r (min (slice_index m.regs r + v) 65535)
    (plus (span_at row.regs r) v) shaped k ch lt
    (omega (arith, inside.0), omega (arith, inside.1)) (inl refl)
    (ap (λ (z : Machine). z.place) goes) (ap (λ (z : Machine). z.counters) goes)
    (ap (λ (z : Machine). z.regs) goes)

pub leads_above : (b : Board) (row : Row) (m : Machine) (h : List Entry) (m' : Machine)
    (h' : List Entry)
    (s : BusState) (r v l : ℕ)
    → IsRow b row → Admits b row m h → Change b m h m' h' empty empty empty → r < 8
    → m' ≡ record (silently (Above r v l) m) { bus = s }
    → LeadsOwn b m.place (Above r v l) row m m' h'
leads_above b row m h m' h' s r v l shaped k ch lt goes =
    go (cases_Bool (nat_lt v (slice_index m.regs r)))
  where
    here : (r < length m.regs) × InSpan (span_at row.regs r) (slice_index m.regs r)
    here = reg_inside b row m h r shaped k lt

    place : m'.place ≡ cond (nat_lt v (slice_index m.regs r)) l (m.place + 1)
    place = ap (λ (z : Machine). z.place) goes

    high : Row
    high = reg_in row r (above (span_at row.regs r) v)

    low : Row
    low = reg_in row r (up_to (span_at row.regs r) v)

    up : List Edge
    up =
        edge_if (nat_lt v (Span.hi (span_at row.regs r))) l
        (reg_in row r (above (span_at row.regs r) v))

    on : List Edge
    on = edge_if (nat_le (Span.lo (span_at row.regs r)) v) (m.place + 1)
        (reg_in row r (up_to (span_at row.regs r) v))

    go : (nat_lt v (slice_index m.regs r) ≡ true) ⊎ (nat_lt v (slice_index m.regs r) ≡ false)
        → LeadsOwn b m.place (Above r v l) row m m' h'
    go (inl e) =
        let more : v < slice_index m.regs r = ltb-true v (slice_index m.regs r) e in
        let span : Span = above (span_at row.regs r) v in
        record {
          by = edge l high;
          there = HasEdge-front up on (edge l high)
              (HasEdge-if _ l high
              (lt-ltb v (Span.hi (span_at row.regs r)) (omega (arith, more, here.1.1))));
          to = place ∙ cond-true _ l (m.place + 1) e;
          admits = admits_same b high m h m' h'
              (admits_narrow b row row.regs m h r span k k.regs
              (omega (arith, more, here.1.0), here.1.1)
              here.0) ch (ap (λ (z : Machine). z.regs) goes)
              (ap (λ (z : Machine). z.counters) goes);
          falls = same_rank row m.counters m'.counters (ap (λ (z : Machine). z.counters) goes);
        }
    go (inr e) =
        let less : slice_index m.regs r ≤ v = ltb-false v (slice_index m.regs r) e in
        let span : Span = up_to (span_at row.regs r) v in
        record {
          by = edge (m.place + 1) low;
          there = HasEdge-append up on (edge (m.place + 1) low)
              (HasEdge-if _ (m.place + 1) low
              (le-leb (Span.lo (span_at row.regs r)) v (omega (arith, less, here.1.0))));
          to = place ∙ cond-false _ l (m.place + 1) e;
          admits = admits_same b low m h m' h'
              (admits_narrow b row row.regs m h r span k k.regs
              (here.1.0, omega (arith, less, here.1.1))
              here.0) ch (ap (λ (z : Machine). z.regs) goes)
              (ap (λ (z : Machine). z.counters) goes);
          falls = same_rank row m.counters m'.counters (ap (λ (z : Machine). z.counters) goes);
        }

-- the base gains the least of what the counter was worth
count_rank : (ks cs : List ℕ) (c v lo base : ℕ) → c < length ks → c < length cs
    → lo ≤ slice_index cs c
    → (base + slice_index ks c * lo) + weight (slice_set ks c 0) (slice_set cs c v)
    ≤ base + weight ks cs
count_rank ks cs c v lo base lk lc low =
    let first = weight-set ks cs c v lc in
    let wide : c < length (slice_set cs c v) = omega (arith, lc, length-set cs c v) in
    let two = weight-drop ks (slice_set cs c v) c lk wide in
    let at' : slice_index ks c * slice_index (slice_set cs c v) c ≡ slice_index ks c * v =
    ap (λ n. slice_index ks c * n) (get_or-set_same cs c v 0 lc) in
    let less : slice_index ks c * lo ≤ slice_index ks c * slice_index cs c =
    mul-le-mul_left (slice_index ks c) low in
    omega (arith, first, two, at', less)

pub leads_count : (b : Board) (row : Row) (m : Machine) (h : List Entry) (m' : Machine)
    (h' : List Entry)
    (s : BusState) (c v : ℕ)
    → IsRow b row → Admits b row m h → Change b m h m' h' empty empty empty → c < 4
    → m' ≡ record (silently (Count c v) m) { bus = s } → LeadsOwn b m.place (Count c v) row m m' h'
leads_count b row m h m' h' s c v shaped k ch lt goes =
    let wide : c < length m.counters = omega (
      arith,
      InSpans-length row.counters m.counters k.counters,
      shaped.counter_count,
      lt,
    ) in
    let inside = InSpans-at row.counters m.counters c k.counters wide in
    let next : Row = with_counter row c v in
    let counters : m'.counters ≡ slice_set m.counters c v = ap (λ (z : Machine). z.counters) goes in
    record {
      by = edge (m.place + 1) next;
      there = inl refl;
      to = ap (λ (z : Machine). z.place) goes;
      admits =
          admits_counter b row m h m' h' next c (one v) v k ch (ap (λ (z : Machine). z.regs) goes)
          counters (omega arith, omega arith) refl refl refl refl refl refl refl;
      falls = λ left.
          let P : List ℕ → Type 0 = λ l. rank next l left ≤ rank row m.counters left in
          let less =
          count_rank row.coeffs m.counters c v (Span.lo (span_at row.counters c)) row.base
          (omega (arith, lt, shaped.coeff_count)) wide inside.0 in
          subst P (sym counters) (omega (arith, less));
    }
