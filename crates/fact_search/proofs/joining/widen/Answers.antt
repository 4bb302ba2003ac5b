use Rattle.std.proofs.Common.{◌<◌, ◌≤◌, length, arith}
use Rattle.facts.specs.declared.domain.span.Span.{Span}
use Rattle.fact_search.proofs.Shared.Covers.{spans_self}
use Rattle.fact_search.proofs.Rows.Widened.{spans_set, all_set}
use Rattle.fact_search.proofs.joining.widen.Goals as goal

pub loop-i-init : goal.loop-i-init
loop-i-init c = record { covers = spans_self c.args.spans.now; most = c.requires.most }

pub widen-requires : goal.widen-requires
widen-requires c =
    let lt : c.loop-i.i < length c.loop-i.spans = omega arith in
    c.loop-i.invariant.most c.loop-i.i (record { lo = 0; hi = 0 }) lt

pub loop-i-preserved : goal.loop-i-preserved
loop-i-preserved c =
    let lt : c.loop-i.i < length c.loop-i.spans = omega arith in
    record {
      covers = spans_set c.loop-i.spans c.args.spans.now c.loop-i.i c.widen.result
          (record { lo = 0; hi = 0 }) c.loop-i.invariant.covers lt c.widen.ensures.covers;
      most = all_set (λ (s : Span). s.hi ≤ c.args.most) c.loop-i.spans c.loop-i.i c.widen.result
          c.loop-i.invariant.most c.widen.ensures.most;
    }
