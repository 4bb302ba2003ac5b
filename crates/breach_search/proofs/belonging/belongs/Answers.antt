use Rattle.std.proofs.Common.{◌<◌, ◌==◌, ℕ, length, refl, ap, subst, arith}
use Rattle.std.specs.Prelude.{IsTrue}
use Rattle.std.specs.Int.{bit_at}
use Rattle.targets.specs.States.{BusState}
use Rattle.breach_search.proofs.belonging.belongs.Goals as goal

pub returns : goal.returns
returns c = λ all.
    let s = c.args.state.now in
    let b = c.args.board.now in
    let targets = ap length c.targets-count.ensures.targets in
    let pages = ap (λ (x : BusState). length x.page) c.state.view_is in
    let protects = ap (λ (x : BusState). length x.protect) c.state.view_is in
    let alerting = ap (λ (x : BusState). x.alerting) c.state.view_is in
    let Few : ℕ → Type 0 = λ n. (i : ℕ) → IsTrue (bit_at n i == 1) → i < length b.targets in
    record {
      pages = omega (arith, targets, pages);
      protects = omega (arith, targets, protects);
      targets = c.each_may_store.ensures all;
      alerting = subst Few alerting (λ i set.
          let lt = c.if-not-has_none_from.ensures refl i set in
          omega (arith, lt, targets));
    }
