use Rattle.std.proofs.Common.{◌≡◌, ◌∙◌, ap, false, ℕ, subst, sym, List, [], ◌∷◌, length, map, refl}
use Rattle.std.proofs.Common.{arith, slice_set}
use Rattle.std.specs.Prelude.{Option}
use Rattle.facts.specs.declared.domain.row.Row.{Row as CodeRow}
use Rattle.facts.specs.transfer.Edges.{edge}
use Rattle.facts.specs.domain.Rows.{row_view}
use Rattle.facts.specs.transfer.Ways.{timed_view}
use Rattle.table_check.specs.checker.Looking.{HasRowsOf}
use Rattle.table_check.specs.Tables.{rows_view}
use Rattle.fact_search.specs.Searching.{AreEdgesAt}
use Rattle.fact_search.proofs.Shared.Tables.{view_length}
use Rattle.fact_search.proofs.Steps.Visiting.{IsVisiting, edges_view}
use Rattle.fact_search.proofs.Steps.Visiting.{code_changed, code_same, coming_edge, visit_first}
use Rattle.fact_search.proofs.Steps.Visiting.{visit_last}
use Rattle.fact_search.specs.Leading.{IsLed, leads_of, leads_view}
use Rattle.fact_search.proofs.Steps.Leading.{led_changed, led_same, led_visited, set_view}
use Rattle.fact_search.proofs.known.visit.Goals as goal

pub edges_at-requires : goal.edges_at-requires
edges_at-requires c =
    let P : List (Option CodeRow) → Type 0 = λ items. HasRowsOf c.args.board.now
    (rows_view items) in
    record { rows = subst P (sym c.deref.ensures.value) c.requires.searched.rows }

pub loop-to-init : goal.loop-to-init
loop-to-init c =
    let b = c.args.board.now in
    let p = c.args.program.now in
    let rows = c.args.known.now.rows.items in
    let items = c.into_iter-to-iterator.result.rest.items in
    let P : List (Option CodeRow) → Type 0 = λ xs. AreEdgesAt b p (rows_view xs) c.args.place
    (map timed_view c.in_ok-edges.edges.items) in
    let Q : List (ℕ × CodeRow × ℕ) → Type 0 = λ xs. AreEdgesAt b p (rows_view rows) c.args.place
    (map timed_view xs) in
    let now = c.in_ok-known.field-0 in
    let Led : List (List (ℕ × ℕ)) → Type 0 = λ ls. IsLed b p (rows_view rows)
    (slice_set c.args.known.now.changed.items c.args.place false) ls in
    let led = subst Q (sym c.into_iter-to-iterator.ensures.into_iter_gives.0)
    (subst P c.deref.ensures.value c.in_ok-edges.ensures) in
    record {
      led = led;
      visiting = visit_first b p (rows_view rows) c.args.known.now.changed.items c.args.place
          items c.premises.ensures c.requires.searched c.requires.inside c.requires.before led;
      leads = subst Led (sym (set_view c.args.known.now.leads.items c.args.place now))
          (led_visited b p (rows_view rows) c.args.known.now.changed.items
          (leads_view c.args.known.now.leads.items) c.args.place
          (map timed_view c.in_ok-edges.edges.items) now.items c.requires.led c.requires.inside
          (subst P c.deref.ensures.value c.in_ok-edges.ensures)
          (c.in_ok-known.ensures
          ∙ ap (λ xs. leads_of (map timed_view xs)) c.deref-2.ensures.value));
    }

pub learn-requires-clause-rows : goal.learn-requires-clause-rows
learn-requires-clause-rows c = c.loop-to.invariant.visiting.rows

pub learn-requires-clause-inside : goal.learn-requires-clause-inside
learn-requires-clause-inside c =
    let places = c.loop-to.invariant.visiting.places in
    let e = view_length c.loop-to.known.rows.items in
    let one = coming_edge c.args.board.now c.args.program.now c.args.place
    (edges_view c.into_iter-to-iterator.result.rest.items)
    (rows_view c.args.known.now.rows.items) (rows_view c.loop-to.known.rows.items)
    c.loop-to.known.changed.items c.loop-to.to-iterator.rest.items c.next.new.self.rest.items
    (c.in-Some.to, c.in-Some.row, c.in-Some._ticks) c.loop-to.next c.in-Some.ensures.steps.0
    c.loop-to.invariant.visiting in
    let inside = one.inside in
    omega (arith, inside, places, e)

pub learn-requires-clause-shaped : goal.learn-requires-clause-shaped
learn-requires-clause-shaped c =
    let one = coming_edge c.args.board.now c.args.program.now c.args.place
    (edges_view c.into_iter-to-iterator.result.rest.items)
    (rows_view c.args.known.now.rows.items) (rows_view c.loop-to.known.rows.items)
    c.loop-to.known.changed.items c.loop-to.to-iterator.rest.items c.next.new.self.rest.items
    (c.in-Some.to, c.in-Some.row, c.in-Some._ticks) c.loop-to.next c.in-Some.ensures.steps.0
    c.loop-to.invariant.visiting in
    one.shaped

pub index_mut-requires-then-branch : goal.index_mut-requires-then-branch
index_mut-requires-then-branch c =
    let one = coming_edge c.args.board.now c.args.program.now c.args.place
    (edges_view c.into_iter-to-iterator.result.rest.items)
    (rows_view c.args.known.now.rows.items) (rows_view c.loop-to.known.rows.items)
    c.loop-to.known.changed.items c.loop-to.to-iterator.rest.items c.next.new.self.rest.items
    (c.in-Some.to, c.in-Some.row, c.in-Some._ticks) c.loop-to.next c.in-Some.ensures.steps.0
    c.loop-to.invariant.visiting in
    let inside = one.inside in
    let flags = c.loop-to.invariant.visiting.flags in
    let len = c.loop-to.known.changed.ok.0 in
    omega (arith, inside, flags, len)

pub loop-to-preserved-then-branch : goal.loop-to-preserved-then-branch
loop-to-preserved-then-branch c = record {
  led = c.loop-to.invariant.led;
  visiting = code_changed c.args.board.now c.args.program.now c.args.place
      (edges_view c.into_iter-to-iterator.result.rest.items)
      (rows_view c.args.known.now.rows.items) (rows_view c.loop-to.known.rows.items)
      (rows_view c.learn.new.rows.items) c.loop-to.known.changed.items
      c.loop-to.to-iterator.rest.items c.next.new.self.rest.items
      (c.in-Some.to, c.in-Some.row, c.in-Some._ticks) c.loop-to.next c.min-next.result
      c.in_ok-learn.field-0 c.in-Some.ensures.steps.0 c.loop-to.invariant.visiting
      c.in_ok-learn.ensures c.if-branch.true c.min-next.ensures;
  leads = led_changed c.args.board.now c.args.program.now c.args.place
      (rows_view c.loop-to.known.rows.items) (rows_view c.learn.new.rows.items)
      c.loop-to.known.changed.items (leads_view c.loop-to.known.leads.items)
      (edge c.in-Some.to (row_view c.in-Some.row)) c.in_ok-learn.field-0
      c.loop-to.invariant.leads c.in_ok-learn.ensures
      (let one = coming_edge c.args.board.now c.args.program.now c.args.place
      (edges_view c.into_iter-to-iterator.result.rest.items)
      (rows_view c.args.known.now.rows.items) (rows_view c.loop-to.known.rows.items)
      c.loop-to.known.changed.items c.loop-to.to-iterator.rest.items
      c.next.new.self.rest.items (c.in-Some.to, c.in-Some.row, c.in-Some._ticks)
      c.loop-to.next c.in-Some.ensures.steps.0 c.loop-to.invariant.visiting in
      let inside = one.inside in
      let flags = c.loop-to.invariant.visiting.flags in omega (arith, inside, flags));
}

pub loop-to-preserved : goal.loop-to-preserved
loop-to-preserved c = record {
  led = c.loop-to.invariant.led;
  visiting = code_same c.args.board.now c.args.program.now c.args.place
      (edges_view c.into_iter-to-iterator.result.rest.items)
      (rows_view c.args.known.now.rows.items) (rows_view c.loop-to.known.rows.items)
      (rows_view c.learn.new.rows.items) c.loop-to.known.changed.items
      c.loop-to.to-iterator.rest.items c.next.new.self.rest.items
      (c.in-Some.to, c.in-Some.row, c.in-Some._ticks) c.loop-to.next
      c.in_ok-learn.field-0 c.in-Some.ensures.steps.0 c.loop-to.invariant.visiting
      c.in_ok-learn.ensures c.if-branch.false;
  leads = led_same c.args.board.now c.args.program.now c.args.place
      (rows_view c.loop-to.known.rows.items) (rows_view c.learn.new.rows.items)
      c.loop-to.known.changed.items (leads_view c.loop-to.known.leads.items)
      (edge c.in-Some.to (row_view c.in-Some.row)) c.in_ok-learn.field-0
      c.loop-to.invariant.leads c.in_ok-learn.ensures c.if-branch.false;
}

no_items : {X : Type 0} (xs : List X) (n : ℕ) → n ≡ length xs → n ≡ 0 → xs ≡ []
no_items [] n e z = refl
no_items (x ∷ xs) n e z = absurd (omega (arith, e, z))

pub returns-clause-searched : goal.returns-clause-searched
returns-clause-searched c =
    let b = c.args.board.now in
    let p = c.args.program.now in
    let rest = c.loop-to.to-iterator.rest in
    let items = c.into_iter-to-iterator.result.rest.items in
    let first = rows_view c.args.known.now.rows.items in
    let t = rows_view c.loop-to.known.rows.items in
    let P : List (ℕ × CodeRow × ℕ) → Type 0 = λ xs. IsVisiting b p c.args.place
    (edges_view items) first t c.loop-to.known.changed.items (edges_view xs) c.loop-to.next in
    visit_last b p c.args.place items first t c.loop-to.known.changed.items c.loop-to.next
    (subst P (no_items rest.items rest.len rest.ok.0 c.in-None.ensures.steps.0)
    c.loop-to.invariant.visiting) c.loop-to.invariant.led

pub returns-clause-led : goal.returns-clause-led
returns-clause-led c = c.loop-to.invariant.leads

pub returns-clause-before : goal.returns-clause-before
returns-clause-before c = c.loop-to.invariant.visiting.settled

pub returns-clause-near : goal.returns-clause-near
returns-clause-near c = c.loop-to.invariant.visiting.near

pub returns-clause-onward : goal.returns-clause-onward
returns-clause-onward c = c.loop-to.invariant.visiting.onward
