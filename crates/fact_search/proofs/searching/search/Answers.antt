use Rattle.std.proofs.Common.{◌≡◌, ◌<◌, ◌≤◌, ◌+◌, ◌∙◌, ℕ, List, Bool, false, length, arith, subst}
use Rattle.std.proofs.Common.{sym}
use Rattle.table_check.specs.Tables.{rows_view}
use Rattle.fact_search.specs.Leading.{leads_view}
use Rattle.fact_search.specs.Searching.{is_changed}
use Rattle.fact_search.proofs.Shared.Tables.{length_set}
use Rattle.fact_search.proofs.Steps.Ending.{all_followed, few_visits, no_visits, one_visit}
use Rattle.fact_search.proofs.Steps.Ending.{place_inside, same_or, unchanged_on, up_to_more}
use Rattle.fact_search.proofs.Steps.Leading.{all_led}
use Rattle.fact_search.proofs.searching.search.Goals as goal

pub loop-visit-init : goal.loop-visit-init
loop-visit-init c =
    let zeros = no_visits c.in_ok-visits.visits.items c.places.result
    (c.in_ok-visits.ensures.items_if_clones_equal (λ y e. e)) in
    let len = c.in_ok-visits.ensures.len in
    let ok = c.in_ok-visits.visits.ok.0 in
    let count = c.places.ensures.count in
    record {
      searched = c.in_ok-known.ensures.searched;
      led = c.in_ok-known.ensures.led;
      before = λ n lt. absurd (omega (arith, lt));
      inside = omega arith;
      onward = λ forward. omega arith;
      places = omega (arith, len, ok, count);
      few = zeros;
      most = up_to_more 0 4096 c.in_ok-visits.visits.items (omega arith) zeros;
    }

pub returns-in_default-clause-done : goal.returns-in_default-clause-done
returns-in_default-clause-done c =
    let Rest : List Bool → Type 0 = λ xs. (n : ℕ) → c.loop-visit.cursor ≤ n
    → is_changed xs n ≡ false in
    all_followed c.args.board.now c.args.program.now (rows_view c.loop-visit.known.rows.items)
    c.loop-visit.known.changed.items c.loop-visit.cursor c.loop-visit.invariant.searched
    c.loop-visit.invariant.before (subst Rest c.deref.ensures.value c.in_default.ensures)

pub returns-in_default-clause-led : goal.returns-in_default-clause-led
returns-in_default-clause-led c =
    let Rest : List Bool → Type 0 = λ xs. (n : ℕ) → c.loop-visit.cursor ≤ n
    → is_changed xs n ≡ false in
    all_led c.args.board.now c.args.program.now (rows_view c.loop-visit.known.rows.items)
    c.loop-visit.known.changed.items c.loop-visit.cursor
    (leads_view c.loop-visit.known.leads.items) c.loop-visit.invariant.led
    c.loop-visit.invariant.before (subst Rest c.deref.ensures.value c.in_default.ensures)

pub index-requires : goal.index-requires
index-requires c =
    let inside = place_inside c.loop-visit.known.changed.items c.deref.result.now
    c.args.program.now c.in-Some.place c.deref.ensures.value c.in-Some.ensures.1
    c.loop-visit.invariant.searched.flags in
    let places = c.loop-visit.invariant.places in
    let ok = c.loop-visit.visits.ok.0 in omega (arith, inside, places, ok)

pub returns-then-index-eq-MOST_VISITS-clause-gave_up :
    goal.returns-then-index-eq-MOST_VISITS-clause-gave_up
returns-then-index-eq-MOST_VISITS-clause-gave_up c = λ forward.
    let inside = place_inside c.loop-visit.known.changed.items c.deref.result.now
    c.args.program.now c.in-Some.place c.deref.ensures.value c.in-Some.ensures.1
    c.loop-visit.invariant.searched.flags in
    let places = c.loop-visit.invariant.places in
    let lt : c.in-Some.place < length c.loop-visit.visits.items = omega (arith, inside, places) in
    let v = c.loop-visit.invariant.few c.in-Some.place c.index.result.now lt in
    let h = c.index.ensures in
    let e = c.if-index-eq-MOST_VISITS.true in
    let most = c.places.ensures.program.few in
    let on = c.loop-visit.invariant.onward forward in
    let cursor = c.loop-visit.invariant.inside in
    absurd (omega (arith, v, h, e, most, on, cursor))

pub index_mut-requires : goal.index_mut-requires
index_mut-requires c =
    let inside = place_inside c.loop-visit.known.changed.items c.deref.result.now
    c.args.program.now c.in-Some.place c.deref.ensures.value c.in-Some.ensures.1
    c.loop-visit.invariant.searched.flags in
    let places = c.loop-visit.invariant.places in
    let ok = c.loop-visit.visits.ok.0 in omega (arith, inside, places, ok)

pub overflow_add-index_mut : goal.overflow_add-index_mut
overflow_add-index_mut c =
    let inside = place_inside c.loop-visit.known.changed.items c.deref.result.now
    c.args.program.now c.in-Some.place c.deref.ensures.value c.in-Some.ensures.1
    c.loop-visit.invariant.searched.flags in
    let places = c.loop-visit.invariant.places in
    let lt : c.in-Some.place < length c.loop-visit.visits.items = omega (arith, inside, places) in
    let v = c.loop-visit.invariant.most c.in-Some.place c.index_mut.result.now lt in
    let h = c.index_mut.ensures.value in
    omega (arith, v, h)

pub visit-requires-clause-inside : goal.visit-requires-clause-inside
visit-requires-clause-inside c =
    place_inside c.loop-visit.known.changed.items c.deref.result.now c.args.program.now
    c.in-Some.place c.deref.ensures.value c.in-Some.ensures.1
    c.loop-visit.invariant.searched.flags

pub visit-requires-clause-before : goal.visit-requires-clause-before
visit-requires-clause-before c =
    unchanged_on c.loop-visit.known.changed.items c.deref.result.now c.loop-visit.cursor
    c.in-Some.place c.deref.ensures.value c.loop-visit.invariant.before c.in-Some.ensures.2

pub visit-requires-clause-searched : goal.visit-requires-clause-searched
visit-requires-clause-searched c = c.loop-visit.invariant.searched

pub visit-requires-clause-led : goal.visit-requires-clause-led
visit-requires-clause-led c = c.loop-visit.invariant.led

pub loop-visit-preserved : goal.loop-visit-preserved
loop-visit-preserved c =
    let visits = c.loop-visit.visits.items in
    let place = c.in-Some.place in
    let inside = place_inside c.loop-visit.known.changed.items c.deref.result.now
    c.args.program.now place c.deref.ensures.value c.in-Some.ensures.1
    c.loop-visit.invariant.searched.flags in
    let places = c.loop-visit.invariant.places in
    let lt : place < length visits = omega (arith, inside, places) in
    let v = c.index_mut.result.now in
    let h = c.index_mut.ensures.value in
    let least = c.in-Some.ensures.0 in
    let near = c.in_ok-cursor.ensures.near in
    let apart : v ≡ 4096 → ⊥ = λ e. c.if-index-eq-MOST_VISITS.false
    (c.index.ensures ∙ (same_or visits place c.index.result.now v lt ∙ (sym h ∙ e))) in
    record {
      searched = c.in_ok-cursor.ensures.searched;
      led = c.in_ok-cursor.ensures.led;
      before = c.in_ok-cursor.ensures.before;
      inside = omega (arith, near, inside);
      onward = λ forward.
          let on = c.in_ok-cursor.ensures.onward forward in
          let old = c.loop-visit.invariant.onward forward in
          omega (arith, on, old, least);
      places = length_set visits place (v + 1) ∙ places;
      few = one_visit visits place c.loop-visit._visit v c.loop-visit.invariant.few lt h;
      most = few_visits visits place v c.loop-visit.invariant.most lt apart h;
    }

pub returns-clause-gave_up : goal.returns-clause-gave_up
returns-clause-gave_up c = λ forward.
    let few = c.places.ensures.program.few in
    let on = c.loop-visit.invariant.onward forward in
    let inside = c.loop-visit.invariant.inside in
    let stop = c.loop-visit-test.false in
    absurd (omega (arith, few, on, inside, stop))
