use Rattle.std.proofs.Common.{List, ℕ, ◌-◌, ◌<◌, length, sym, subst}
use Rattle.std.specs.Prelude.{IsTrue}
use Rattle.std.proofs.lemmas.Option.{slice_get_within}
use Rattle.board_lints.specs.Reasons.{CanComeGood}
use Rattle.board_lints.specs.Ready.{is_ready, AreRails}
use Rattle.board_lints.proofs.Circles.{more_rails, more_good, fewer_left, still_ready}
use Rattle.board_lints.proofs.ready.ready_after.Goals as goal

pub loop-rail-smaller : goal.loop-rail-smaller
loop-rail-smaller c =
    let b = c.args.board.now in
    let ready = c.loop-rail.ready.items in
    let found = rw c.deref.ensures.value at c.in-Some.ensures in
    let are =
    more_rails b ready c.in-Some.rail c.loop-rail.invariant.rails found.0
    (slice_get_within b.rails c.in-Some.rail found.1.0 found.1.1) in
    subst (λ (more : List ℕ). length b.rails - length more < length b.rails - length ready)
    (sym c.in_ok-push.ensures.items) (fewer_left b ready c.in-Some.rail are)

pub loop-rail-preserved : goal.loop-rail-preserved
loop-rail-preserved c =
    let b = c.args.board.now in
    let ready = c.loop-rail.ready.items in
    let found = rw c.deref.ensures.value at c.in-Some.ensures in record {
      rails = subst (AreRails b) (sym c.in_ok-push.ensures.items)
          (more_rails b ready c.in-Some.rail c.loop-rail.invariant.rails found.0
          (slice_get_within b.rails c.in-Some.rail found.1.0 found.1.1));
      good = λ before. subst (λ more. (d : ℕ) → IsTrue (is_ready more d) → CanComeGood b d)
          (sym c.in_ok-push.ensures.items)
          (more_good b ready c.in-Some.rail found.1.0 found.1.1 found.1.2
          (c.loop-rail.invariant.good before));
      kept = λ d t. subst (λ more. IsTrue (is_ready more d)) (sym c.in_ok-push.ensures.items)
          (still_ready ready c.in-Some.rail d (c.loop-rail.invariant.kept d t));
    }
