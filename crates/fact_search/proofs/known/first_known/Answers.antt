use Rattle.std.proofs.Common.{◌≡◌, ◌∙◌, ◌++◌, ◌∷◌, [], ℕ, List, ap, length, subst, arith, true}
use Rattle.std.proofs.Common.{Some, replicate}
use Rattle.table_check.specs.Tables.{rows_view}
use Rattle.fact_search.proofs.Steps.First.{IsFirst, first_more, first_one, first_searched}
use Rattle.fact_search.specs.Leading.{leads_view}
use Rattle.fact_search.proofs.Steps.Leading.{led_first}
use Rattle.fact_search.proofs.known.first_known.Goals as goal

one_item : {X : Type 0} (xs : List X) (x : X) → xs ≡ [] → xs ++ x ∷ [] ≡ x ∷ []
one_item xs x e = ap (λ ys. ys ++ x ∷ []) e

pub loop-place-init : goal.loop-place-init
loop-place-init c =
    first_one c.args.board.now c.push.new.self.items c.push-2.new.self.items
    c.in_ok-start_row.field-0
    (c.in_ok-push.ensures.items ∙ one_item c.in_ok-rows.rows.items
    (Some c.in_ok-start_row.field-0) c.in_ok-rows.ensures.items)
    (c.in_ok-push-2.ensures.items ∙ one_item c.in_ok-changed.changed.items true
    c.in_ok-changed.ensures.items)
    c.in_ok-start_row.ensures

pub loop-place-preserved : goal.loop-place-preserved
loop-place-preserved c =
    first_more c.args.board.now c.loop-place.rows.items c.push-in-loop-place.new.self.items
    c.loop-place.changed.items c.push-in-loop-place-2.new.self.items c.loop-place._place
    c.in_ok-push-3.ensures.items c.in_ok-push-4.ensures.items c.loop-place.invariant

pub returns-clause-searched : goal.returns-clause-searched
returns-clause-searched c =
    let some = c.premises.ensures.program.some in
    let count = c.places-places.ensures.count in
    let stop = c.loop-place-test.false in
    let end = c.loop-place.auto._place-end in
    let P : ℕ → Type 0 = λ n. IsFirst c.args.board.now (rows_view c.loop-place.rows.items)
    c.loop-place.changed.items n in
    let e : c.loop-place._place ≡ length c.args.program.now =
    omega (arith, some, count, stop, end) in
    first_searched c.args.board.now c.args.program.now (rows_view c.loop-place.rows.items)
    c.loop-place.changed.items c.premises.ensures (subst P e c.loop-place.invariant)

pub returns-clause-led : goal.returns-clause-led
returns-clause-led c =
    let some = c.premises.ensures.program.some in
    let count = c.places-places.ensures.count in
    let stop = c.loop-place-test.false in
    let end = c.loop-place.auto._place-end in
    let P : ℕ → Type 0 = λ n. IsFirst c.args.board.now (rows_view c.loop-place.rows.items)
    c.loop-place.changed.items n in
    let e : c.loop-place._place ≡ length c.args.program.now =
    omega (arith, some, count, stop, end) in
    led_first c.args.board.now c.args.program.now (rows_view c.loop-place.rows.items)
    c.loop-place.changed.items (leads_view c.in_ok-leads.leads.items)
    (subst P e c.loop-place.invariant)
    (c.in_ok-leads.ensures
    ∙ ap (λ n. replicate {A = List (ℕ × ℕ)} n []) c.places-places.ensures.count)
