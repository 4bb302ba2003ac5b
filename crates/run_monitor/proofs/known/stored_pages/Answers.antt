use Rattle.std.proofs.Common.{◌≡◌, ◌+◌, slice_index_or, ◌++◌, ◌∙◌, ap, drop, map, sym, subst, List}
use Rattle.std.proofs.Common.{ℕ}
use Rattle.facts.specs.domain.Sets.{Set, gains, only, pages_in}
use Rattle.run_monitor.proofs.Stored.{one_more}
use Rattle.run_monitor.proofs.known.stored_pages.Goals as goal

pub loop-page-preserved : goal.loop-page-preserved
loop-page-preserved c =
    let i = c.loop-page.page-index in
    let xs = c.args.pages.now in
    let P : List ℕ → Type 0 = λ items.
    map pages_in items ++ map only (drop (i + 1) xs) ≡ map only xs in
    subst P (sym c.in_ok-push.ensures.items)
    (one_more pages_in c.loop-page.sets.items xs i c.with.result 0 c.loop-page.invariant
    c.loop-page-test.true
    (c.with.ensures ∙ ap (λ (s : Set). gains s (slice_index_or xs i 0)) c.empty.ensures))
