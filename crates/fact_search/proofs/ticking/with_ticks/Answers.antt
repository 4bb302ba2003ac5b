use Rattle.std.proofs.Common.{◌≡◌, ◌∙◌, length, arith}
use Rattle.std.specs.Prelude.{IfSome, Option}
use Rattle.facts.specs.declared.domain.row.Row.{Row as CodeRow}
use Rattle.fact_search.proofs.Ends.Ticked.{all_pushed, ticked_pushed}
use Rattle.fact_search.proofs.ticking.with_ticks.Goals as goal

pub loop-row-preserved : goal.loop-row-preserved
loop-row-preserved c = record {
  same = ticked_pushed c.args.lefts.now c.loop-row.out.items c.push.new.self.items
      c.loop-row.row-iterator.rest.items c.next.new.self.rest.items c.in-Some.row
      c.with_left.result c.len-place.result c.in_ok-push.ensures.items
      c.in-Some.ensures.steps.0
      (let e = c.len-place.ensures in let ok = c.loop-row.out.ok.0 in omega (arith, e, ok))
      c.with_left.ensures.row ∙ c.loop-row.invariant.same;
  four = all_pushed (λ (row : Option CodeRow). IfSome row (λ r. length r.coeffs ≡ 4))
      c.loop-row.out.items c.push.new.self.items c.with_left.result c.in_ok-push.ensures.items
      c.loop-row.invariant.four c.with_left.ensures.count;
}
