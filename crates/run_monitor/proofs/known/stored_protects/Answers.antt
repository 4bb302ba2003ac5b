use Rattle.std.proofs.Common.{◌≡◌, ◌+◌, slice_index_or, ◌++◌, ◌∙◌, ap, drop, map, sym, subst, List}
use Rattle.std.proofs.Common.{ℕ}
use Rattle.facts.specs.domain.Sets.{Set, gains, only, protects_in}
use Rattle.run_monitor.proofs.Stored.{one_more}
use Rattle.run_monitor.proofs.known.stored_protects.Goals as goal

pub loop-protect-preserved : goal.loop-protect-preserved
loop-protect-preserved c =
    let i = c.loop-protect.protect-index in
    let xs = c.args.protects.now in
    let P : List ℕ → Type 0 = λ items.
    map protects_in items ++ map only (drop (i + 1) xs) ≡ map only xs in
    subst P (sym c.in_ok-push.ensures.items)
    (one_more protects_in c.loop-protect.sets.items xs i c.with.result 0 c.loop-protect.invariant
    c.loop-protect-test.true
    (c.with.ensures ∙ ap (λ (s : Set). gains s (slice_index_or xs i 0)) c.empty.ensures))
