use Rattle.std.proofs.Common.{ℕ, slice_index, refl, ap, arith}
use Rattle.std.proofs.lemmas.Option.{slice_get_within}
use Rattle.board.specs.Boards.{Target}
use Rattle.targets.specs.States.{BusState, MayStore}
use Rattle.breach_search.proofs.Places.{one_more, read_is}
use Rattle.breach_search.proofs.belonging.each_may_store.Goals as goal

pub loop-index-preserved : goal.loop-index-preserved
loop-index-preserved c =
    let i = c.loop-index.index in
    let t = c.target-item.result in
    let s = c.args.state.now in
    let within = rw c.targets-target-items.ensures.targets at c.loop-index-test.true in
    let page =
    read_is c.state.inside.page.items s.page i c.index.result.now _
    (ap (λ (s : BusState). s.page) c.state.view_is) c.requires.pages within c.index.ensures in
    let protect =
    read_is c.state.inside.protect.items s.protect i c.index-in-loop-index.result.now _
    (ap (λ (s : BusState). s.protect) c.state.view_is) c.requires.protects within
    c.index-in-loop-index.ensures in
    let here : MayStore t (slice_index s.page i) (slice_index s.protect i) =
    rw (page, protect) at (c.if-not-may_store.ensures.0 refl) in
    one_more
    (λ (i : ℕ) (t : Target). MayStore t (slice_index s.page i) (slice_index s.protect i))
    c.args.board.now.targets i t within
    (rw c.targets-target-items.ensures.targets at c.target-item.is) c.loop-index.invariant here

pub returns : goal.returns
returns c = λ _ i t at.
    let there = slice_get_within c.args.board.now.targets i t at in
    let all = rw c.targets-target-items.ensures.targets at c.loop-index-test.false in
    c.loop-index.invariant i t (omega (arith, there, all)) at
