-- The table that is found keeps the rule book if any table does, and its verdict tells the cause.
use Rattle.std.proofs.Common.{◌≡◌, ◌<◌, ◌≤◌, ◌+◌, ◌-◌, ◌*◌, ◌⊎◌, ℕ, List, length, map}
use Rattle.std.proofs.Common.{refl, ap, sym, ◌∙◌, subst, inl, inr, arith, min}
use Rattle.std.specs.Prelude.{Some, slice_get, slice_index}
use Rattle.board.specs.Boards.{Board}
use Rattle.seq_program.specs.declared.instr.Instr.{Instr}
use Rattle.facts.specs.declared.duties.rule.Rule.TheVariants.{K1}
use Rattle.seq_program.specs.Requests.{else_in}
use Rattle.facts.specs.transfer.Edges.{Edge}
use Rattle.facts.specs.domain.Rows.{Row, InSpan, IsRow, RowCovers, most_ticks, rank}
use Rattle.facts.specs.transfer.TimedEdges.{HasTimed, timed_edges}
use Rattle.table_check.specs.checker.ByPlace.{Follows, EdgesHold, KeepsDuties, MeetsAll}
use Rattle.table_check.specs.checker.Obligations.{IsInductive}
use Rattle.table_check.specs.Tables.{Table, row_of}
use Rattle.fact_search.specs.Finds.{IsFound, TellsCause}
use Rattle.fact_search.specs.Forward.{IsForward}
use Rattle.fact_search.specs.Searching.{IsFollowedTable, Premises}
use Rattle.fact_search.specs.declared.loops.Ticks.{Ticks}
use Rattle.fact_search.specs.Ticking.{ArePaid, DoFit, later, most_cost, most_worst, paid, plain}
use Rattle.fact_search.specs.Ticking.{ticked, with_left}
use Rattle.fact_search.proofs.Shared.Covers.{covers_self, covers_trans, row_shaped}
use Rattle.fact_search.proofs.Shared.Tables.{row_inside}
use Rattle.fact_search.proofs.Leads.Goes.{lost_is, onward}
use Rattle.fact_search.proofs.Leads.Has.{IsLost, IsOwn, own_or_lost}
use Rattle.fact_search.proofs.Leads.Keeps.{Keeps, edge_keeps, lost_keeps, rank_none}
use Rattle.fact_search.proofs.Leads.Said.{is_instr, is_said}
use Rattle.fact_search.proofs.Steps.Below.{duties_below}
use Rattle.fact_search.proofs.Ends.Alike.{left_met, left_row, left_shaped, left_starts, met_left}
use Rattle.fact_search.proofs.Ends.Alike.{over, under}
use Rattle.fact_search.proofs.Ends.Counted.{IsLeft, all_low, is_left, left_coeffs, left_later}
use Rattle.fact_search.proofs.Ends.Counted.{lower, pays_lost, pays_own}
use Rattle.fact_search.proofs.Ends.Ticked.{left_at, length_ticked, new_row, old_row, paid_at}

abbrev paid_by : Board → ℕ → List ℕ → List Ticks
paid_by b lost ticks = paid lost b.contentions (map plain ticks)

-- an instruction goes on at its row, with its ticks
goes_on : (b : Board) (p : List Instr) (t : Table) (lost : ℕ) (ticks : List ℕ) (place : ℕ)
    (i : Instr) (row : Row) → Premises b p → IsForward p → IsFollowedTable b p t
    → DoFit b p t lost ticks → lost ≤ most_worst → slice_get p place ≡ Some i
    → row_of t place ≡ Some row
    → MeetsAll b i (with_left (left_at lost b.contentions ticks place) row)
    → EdgesHold b (ticked (paid_by b lost ticks) t) place i
    (with_left (left_at lost b.contentions ticks place) row)
goes_on b p t lost ticks place i row given forward k fit low here there met = record {
  covered = λ e w h.
      let y = back e w h in
      let c = k.followed place i row here there old y.0 w y.1 in
      let P : ℕ → Type 0 = λ m. row_of t m ≡ Some c.0 in
      let there' = subst P y.2 c.1 in (
        with_left (left e.to) c.0,
        new_row (paid_by b lost ticks) t e.to (left e.to) c.0 (has e.to c.0 there') there',
        over b c.0 e.row (left e.to) (covers_trans b c.0 (Edge.row y.0) e.row c.2 y.3),
      );
  falls = λ e w h next at' counters inside less within.
      falls e w h next at' counters less within (own_or_lost b place i mine e w h);
  ends = λ is counters inside less within.
      let some = fit.some place 0 (inside_ticks place row there) in
      let base = positive (left place) some (is_left lost b.contentions ticks place
      (fit.most place 0 (inside_ticks place row there)) low given.board.contentions) in
      omega (arith, base);
}
  where
    left : ℕ → Ticks
    left n = left_at lost b.contentions ticks n

    mine : Row
    mine = with_left (left_at lost b.contentions ticks place) row

    shaped : IsRow b row
    shaped = k.rows place row there

    old : MeetsAll b i row
    old = left_met b p place i row (left place) given shaped here met

    inside_ticks : (n : ℕ) (r : Row) → row_of t n ≡ Some r → n < length ticks
    inside_ticks n r at =
        let a = row_inside t n r at in
        let places = k.places in
        let count = fit.count in omega (arith, a, places, count)

    has : (n : ℕ) (r : Row) → row_of t n ≡ Some r
        → slice_get (paid_by b lost ticks) n ≡ Some (left n)
    has n r at = paid_at lost b.contentions ticks n (inside_ticks n r at)

    positive : {n : ℕ} (by : Ticks) → 1 ≤ n → IsLeft lost b.contentions n by → 1 ≤ by.base
    positive by some (inl e) = omega (arith, some, e.0)
    positive by some (inr e) = omega (arith, some, e.0)

    -- an edge of the row without these ticks
    back : (e : Edge) (w : ℕ) → HasTimed (timed_edges b place i mine) e w
        → (y : Edge) × HasTimed (timed_edges b place i row) y w × (y.to ≡ e.to)
        × RowCovers b y.row e.row
    back e w h = given.edges b place i row mine given.board
        (is_said b p place i row given.program here (old K1)) (record {
          left = row_shaped b row shaped;
          right = left_shaped b row (left place) shaped;
          covers = under b row row (left place) (covers_self b row);
        }) e w h

    keeps : Keeps (left place) mine
    keeps = (refl, left_coeffs lost b.contentions ticks place, refl)

    falls : (e : Edge) (w : ℕ) → HasTimed (timed_edges b place i mine) e w → (next : Row)
        → row_of (ticked (paid_by b lost ticks) t) e.to ≡ Some next → (counters : List ℕ)
        → (less : ℕ) → InSpan e.row.lost less
        → IsOwn b place i mine e w ⊎ IsLost b i mine e w
        → w + rank next counters (b.contentions - less)
        ≤ rank e.row counters (b.contentions - less)
    falls e w h next at' counters less within kind =
        let y = back e w h in
        let c = k.followed place i row here there old y.0 w y.1 in
        let P : ℕ → Type 0 = λ m. row_of t m ≡ Some c.0 in
        let lt = inside_ticks e.to c.0 (subst P y.2 c.1) in
        let x = old_row (paid_by b lost ticks) t e.to (left e.to) next
        (paid_at lost b.contentions ticks e.to lt) at' in
        let Q : ℕ → Type 0 = λ m. min w (most_cost b lost i) + slice_index ticks m
        ≤ slice_index ticks place in
        let paid = subst Q y.2 (fit.pays place i row here there old y.0 w y.1) in
        let on = onward b p place i mine e w forward here h in
        let later' = left_later lost b.contentions ticks e.to (omega (arith, on)) in
        let R : Row → Type 0 = λ z. rank z counters (b.contentions - less)
        ≡ slice_index ticks e.to + lost * (b.contentions - less) in
        let theirs = subst R (sym (x.2 ∙ ap (λ (z : Ticks). with_left z x.0) later'))
        (rank_none (later lost (plain (slice_index ticks e.to)))
        (with_left (later lost (plain (slice_index ticks e.to))) x.0) counters
        (b.contentions - less) (refl, refl, refl)) in
        let kept = is_left lost b.contentions ticks place
        (fit.most place 0 (inside_ticks place row there)) low given.board.contentions in
        by kind paid theirs kept
      where
        by : IsOwn b place i mine e w ⊎ IsLost b i mine e w
            → min w (most_cost b lost i) + slice_index ticks e.to ≤ slice_index ticks place
            → rank next counters (b.contentions - less)
            ≡ slice_index ticks e.to + lost * (b.contentions - less)
            → IsLeft lost b.contentions (slice_index ticks place) (left place)
            → w + rank next counters (b.contentions - less)
            ≤ rank e.row counters (b.contentions - less)
        by (inl own) paid theirs kept =
            let here' = rank_none (left place) e.row counters (b.contentions - less)
            (edge_keeps b place i mine (left place) e (is_instr p place i given.program here)
            keeps own.0) in
            let le : w ≤ most_cost b lost i = omega (arith, own.1) in
            let done = pays_own lost b.contentions (slice_index ticks place)
            (b.contentions - less) w (most_cost b lost i) (slice_index ticks e.to) (left place)
            kept paid le (omega arith) in
            omega (arith, done, theirs, here')
        by (inr one) paid theirs kept =
            let z = lost_is b (else_in i) mine e one.0 in
            let S : Row → Type 0 = λ r.
            Keeps (record (left place) { base = Ticks.base (left place) + Ticks.lost (left place) })
            r in
            let here' = rank_none
            (record (left place) { base = Ticks.base (left place) + Ticks.lost (left place) })
            e.row counters (b.contentions - less)
            (subst S (sym z.1) (lost_keeps b mine (left place) keeps)) in
            let T : Row → Type 0 = λ r. InSpan r.lost less in
            let above = (subst T z.1 within).0 in
            let some = lower mine.lost.lo b.contentions z.2 in
            let le : w ≤ most_cost b lost i + lost = omega (arith, one.1) in
            let done = pays_lost lost b.contentions (slice_index ticks place)
            (b.contentions - less) w (most_cost b lost i) (slice_index ticks e.to) (left place)
            kept paid le (omega (arith, above, some)) in
            omega (arith, done, theirs, here')

-- a row with its ticks
abbrev IsTicked : Board → List Instr → Table → ℕ → List ℕ → ℕ → Row → Type 0
IsTicked b p t lost ticks place row =
    (old : Row) × (row_of t place ≡ Some old)
    × (row ≡ with_left (left_at lost b.contentions ticks place) old) × (place < length ticks)

is_ticked : (b : Board) (p : List Instr) (t : Table) (lost : ℕ) (ticks : List ℕ)
    → IsFollowedTable b p t → DoFit b p t lost ticks → (place : ℕ) (row : Row)
    → row_of (ticked (paid_by b lost ticks) t) place ≡ Some row
    → IsTicked b p t lost ticks place row
is_ticked b p t lost ticks k fit place row at' =
    let a = row_inside (ticked (paid_by b lost ticks) t) place row at' in
    let n = length_ticked (paid_by b lost ticks) t in
    let places = k.places in
    let count = fit.count in
    let lt : place < length ticks = omega (arith, a, n, places, count) in
    let x = old_row (paid_by b lost ticks) t place (left_at lost b.contentions ticks place) row
    (paid_at lost b.contentions ticks place lt) at' in
    (x.0, x.1, x.2, lt)

pub follows : (b : Board) (p : List Instr) (t : Table) (lost : ℕ) (ticks : List ℕ)
    → Premises b p → IsForward p → IsFollowedTable b p t → DoFit b p t lost ticks
    → lost ≤ most_worst → Follows b p (ticked (paid_by b lost ticks) t)
follows b p t lost ticks given forward k fit low = record {
  places = length_ticked (paid_by b lost ticks) t ∙ k.places;
  rows = λ place row at'.
      let x = at_place place row at' in
      let kept = is_left lost b.contentions ticks place (fit.most place 0 x.3) low
      given.board.contentions in
      let m = all_low (slice_index ticks place) lost b.contentions (fit.most place 0 x.3) low
      given.board.contentions in
      let P : Row → Type 0 = λ z. IsRow b z in
      subst P (sym x.2) (left_row b x.0 (left_at lost b.contentions ticks place)
      (base_low (left_at lost b.contentions ticks place) kept m)
      (left_coeffs lost b.contentions ticks place)
      (coeff_low (left_at lost b.contentions ticks place) kept)
      (k.rows place x.0 x.1));
  start = (
    with_left (left_at lost b.contentions ticks 0) k.start.0,
    new_row (paid_by b lost ticks) t 0 (left_at lost b.contentions ticks 0) k.start.0
        (paid_at lost b.contentions ticks 0 (inside_ticks 0 k.start.0 k.start.1)) k.start.1,
    left_starts b k.start.0 (left_at lost b.contentions ticks 0) refl k.start.2,
  );
  goes_on = λ place i row here at' met.
      let x = at_place place row at' in
      let P : Row → Type 0 = λ z. EdgesHold b (ticked (paid_by b lost ticks) t) place i z in
      let Q : Row → Type 0 = λ z. MeetsAll b i z in
      subst P (sym x.2) (goes_on b p t lost ticks place i x.0 given forward k fit low here x.1
      (subst Q x.2 met));
}
  where
    inside_ticks : (n : ℕ) (r : Row) → row_of t n ≡ Some r → n < length ticks
    inside_ticks n r at =
        let a = row_inside t n r at in
        let places = k.places in
        let count = fit.count in omega (arith, a, places, count)

    at_place : (place : ℕ) (row : Row) → row_of (ticked (paid_by b lost ticks) t) place ≡ Some row
        → IsTicked b p t lost ticks place row
    at_place = is_ticked b p t lost ticks k fit

    base_low : (by : Ticks) → {n : ℕ} → IsLeft lost b.contentions n by
        → n + lost * b.contentions ≤ most_ticks → by.base ≤ most_ticks
    base_low by (inl e) m = omega (arith, e.0, m)
    base_low by (inr e) m = omega (arith, e.0, m)

    coeff_low : (by : Ticks) → {n : ℕ} → IsLeft lost b.contentions n by → by.lost ≤ most_ticks
    coeff_low by (inl e) = omega (arith, e.1)
    coeff_low by (inr e) = omega (arith, e.1, low)

pub keeps_duties : (b : Board) (p : List Instr) (t any : Table) (lost : ℕ) (ticks : List ℕ)
    → Premises b p → IsFollowedTable b p t → DoFit b p t lost ticks → IsForward p
    → IsInductive b p any → KeepsDuties b p (ticked (paid_by b lost ticks) t)
keeps_duties b p t any lost ticks given k fit forward inductive place i row here at' =
    let x = is_ticked b p t lost ticks k fit place row at' in
    let shaped = k.rows place x.0 x.1 in
    let met = duties_below b p t any place i x.0 given (k.below forward) inductive shaped here
    x.1 in
    let Q : Row → Type 0 = λ z. MeetsAll b i z in
    subst Q (sym x.2) (met_left b p place i x.0 (left_at lost b.contentions ticks place) given
    shaped here met)

pub is_found : (b : Board) (p : List Instr) (t : Table) (lefts : List Ticks) → Premises b p
    → IsFollowedTable b p t → ArePaid b p t lefts → IsForward p
    → IsFound b p (ticked lefts t)
is_found b p t lefts given k paid forward =
    let P : List Ticks → Type 0 = λ ls. IsFound b p (ticked ls t) in
    subst P (sym paid.same) (λ any inductive.
    (given.by_place b p (ticked (paid_by b paid.lost paid.ticks) t)).1 (
      follows b p t paid.lost paid.ticks given forward k paid.fit paid.low,
      keeps_duties b p t any paid.lost paid.ticks given k paid.fit forward inductive,
    ))

pub tells_cause : (b : Board) (p : List Instr) (t : Table) (lefts : List Ticks) → Premises b p
    → IsFollowedTable b p t → ArePaid b p t lefts → IsForward p
    → TellsCause b p (ticked lefts t)
tells_cause b p t lefts given k paid forward =
    let P : List Ticks → Type 0 = λ ls. TellsCause b p (ticked ls t) in
    subst P (sym paid.same) (λ v is.
    given.verdicts b p (ticked (paid_by b paid.lost paid.ticks) t) v
    (follows b p t paid.lost paid.ticks given forward k paid.fit paid.low) is)
