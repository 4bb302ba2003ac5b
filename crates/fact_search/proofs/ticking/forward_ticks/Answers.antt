use Rattle.std.proofs.Common.{◌≤◌, ◌+◌, ◌-◌, All, List, ℕ, ap, length, arith, subst, sym}
use Rattle.table_check.specs.Tables.{rows_view}
use Rattle.fact_search.specs.Ticking.{PaysAt, most_worst}
use Rattle.fact_search.proofs.Steps.Leading.{leads_here, view_length}
use Rattle.fact_search.proofs.Ticks.Paying.{leads_inside, leads_low, leads_pay}
use Rattle.fact_search.proofs.Ticks.Descending.{all_low, do_fit, fit_first, fit_more}
use Rattle.fact_search.proofs.ticking.forward_ticks.Goals as goal

pub loop-done-init : goal.loop-done-init
loop-done-init c =
    fit_first c.args.board.now c.args.program.now (rows_view c.args.known.now.rows.items)
    c.args.lost c.in_ok-ticks.ticks.items c.places-places.result
    (c.in_ok-ticks.ensures.items_if_clones_equal (λ y e. e)) c.places-places.ensures.count

pub index-requires : goal.index-requires
index-requires c =
    let places = c.requires.led.places in
    let len = view_length c.args.known.now.leads.items in
    let ok = c.args.known.now.leads.ok.0 in
    let count = c.places-places.ensures.count in
    let more = c.loop-done-test.true in
    omega (arith, places, len, ok, count, more)

pub longest-requires-clause-inside : goal.longest-requires-clause-inside
longest-requires-clause-inside c = λ k d lt.
    let count = c.places-places.ensures.count in
    let more = c.loop-done-test.true in
    let led = leads_here c.args.board.now c.args.program.now
    (rows_view c.args.known.now.rows.items)
    c.args.known.now.leads.items (c.places-places.result - 1 - c.loop-done.done)
    c.index.result.now c.deref.result.now c.requires.led (omega (arith, count, more))
    c.index.ensures c.deref.ensures.value in
    let h = leads_inside c.args.board.now c.args.program.now
    (rows_view c.args.known.now.rows.items) (c.places-places.result - 1 - c.loop-done.done)
    c.deref.result.now c.premises.ensures led k d lt in
    let e = ap (λ (xs : List ℕ). length xs) c.deref-in-loop-done.ensures.value in
    let all = c.loop-done.invariant.count in
    omega (arith, h, e, all)

pub longest-requires-clause-worst : goal.longest-requires-clause-worst
longest-requires-clause-worst c =
    let count = c.places-places.ensures.count in
    let more = c.loop-done-test.true in
    let led = leads_here c.args.board.now c.args.program.now
    (rows_view c.args.known.now.rows.items)
    c.args.known.now.leads.items (c.places-places.result - 1 - c.loop-done.done)
    c.index.result.now c.deref.result.now c.requires.led (omega (arith, count, more))
    c.index.ensures c.deref.ensures.value in
    leads_low c.args.board.now c.args.program.now (rows_view c.args.known.now.rows.items)
    (c.places-places.result - 1 - c.loop-done.done) c.deref.result.now c.premises.ensures led

pub longest-requires-clause-most : goal.longest-requires-clause-most
longest-requires-clause-most c =
    let few = c.places-places.ensures.program.few in
    let count = c.places-places.ensures.count in
    let more = c.loop-done-test.true in
    let Q : List ℕ → Type 0 = λ xs. All (λ n. n ≤ 1099511627776) xs in
    subst Q (sym c.deref-in-loop-done.ensures.value) (λ i d lt.
    let low = all_low c.args.board.now c.args.program.now (rows_view c.args.known.now.rows.items)
    c.args.lost c.loop-done.ticks.items c.loop-done.done c.loop-done.invariant
    (omega (arith, few, count, more)) i d lt in omega (arith, low))

pub index_mut-requires : goal.index_mut-requires
index_mut-requires c =
    let some = c.places-places.ensures.program.some in
    let count = c.places-places.ensures.count in
    let more = c.loop-done-test.true in
    let len = c.loop-done.invariant.count in
    let ok = c.loop-done.ticks.ok.0 in
    omega (arith, some, count, more, len, ok)

pub loop-done-preserved : goal.loop-done-preserved
loop-done-preserved c =
    let b = c.args.board.now in
    let p = c.args.program.now in
    let t = rows_view c.args.known.now.rows.items in
    let ticks = c.loop-done.ticks.items in
    let done = c.loop-done.done in
    let n = c.longest.result in
    let place : ℕ = c.places-places.result - 1 - done in
    let count = c.places-places.ensures.count in
    let more = c.loop-done-test.true in
    let led = leads_here c.args.board.now c.args.program.now
    (rows_view c.args.known.now.rows.items)
    c.args.known.now.leads.items (c.places-places.result - 1 - c.loop-done.done)
    c.index.result.now c.deref.result.now c.requires.led (omega (arith, count, more))
    c.index.ensures c.deref.ensures.value in
    let lost = c.args.lost in
    let cost = c.most_cost-cost.result in
    let P : List ℕ → Type 0 = λ xs. PaysAt b p t lost xs place n in
    let Q : List ℕ → Type 0 = λ xs. (bound : ℕ) → 1 ≤ bound → All (λ m. m ≤ bound) xs
    → n ≤ bound + most_worst in
    fit_more b p t lost ticks done place n c.requires.forward c.loop-done.invariant
    (omega (arith, count, more)) c.longest.ensures.some
    (subst P c.deref-in-loop-done.ensures.value (leads_pay b p t place c.deref.result.now
    lost cost c.deref-in-loop-done.result.now n led c.most_cost-cost.ensures
    c.longest.ensures.pays))
    (subst Q c.deref-in-loop-done.ensures.value c.longest.ensures.most)

pub returns : goal.returns
returns c =
    let few = c.places-places.ensures.program.few in
    let count = c.places-places.ensures.count in
    let stop = c.loop-done-test.false in
    let end = c.loop-done.auto.done-end in
    do_fit c.args.board.now c.args.program.now (rows_view c.args.known.now.rows.items)
    c.args.lost c.loop-done.ticks.items c.loop-done.done c.loop-done.invariant
    (omega (arith, count, stop)) (omega (arith, few, count, end))
