use Rattle.std.proofs.Common.{◌+◌, take, slice_index_or, sym, subst, arith}
use Rattle.facts.specs.domain.Joining.{AreJoined}
use Rattle.facts.proofs.Coded.Joining.{all_length, all_at, pushed_more, all_pushed}
use Rattle.facts.proofs.domain.part.join_all.Goals as goal

pub offset_bounds-others-i : goal.offset_bounds-others-i
offset_bounds-others-i g c =
    let same = all_length g.P.Part.Alike c.args.parts.now c.args.others.now c.requires.alike in
    let lt = c.loop-i-test.true in
    omega (arith, same, lt)

pub bounds-others-i : goal.bounds-others-i
bounds-others-i g c =
    let same = all_length g.P.Part.Alike c.args.parts.now c.args.others.now c.requires.alike in
    let lt = c.loop-i-test.true in
    omega (arith, same, lt)

pub join-requires : goal.join-requires
join-requires g c =
    let alike =
    all_at g.P.Part.Alike c.args.parts.now c.args.others.now c.loop-i.i c.index-parts-i.result
    c.index-others-i.result c.requires.alike c.loop-i-test.true in
    subst (λ y. g.P.Part.Alike c.index-parts-i.result y) (sym c.index-others-i.is)
    (subst (λ x. g.P.Part.Alike x (slice_index_or c.args.others.now c.loop-i.i
    c.index-others-i.result)) (sym c.index-parts-i.is) alike)

pub loop-i-preserved : goal.loop-i-preserved
loop-i-preserved g c =
    let same = all_length g.P.Part.Alike c.args.parts.now c.args.others.now c.requires.alike in
    let lt = c.loop-i-test.true in
    let joins = c.in_ok-join.ensures in
    let x = c.in_ok-join.field-0 in
    let part = c.index-parts-i.is in
    let other = c.index-others-i.is in
    let more =
    pushed_more g.P.Part.Covers c.loop-i.i c.loop-i.joined.items c.args.parts.now
    c.args.others.now x c.index-parts-i.result c.index-others-i.result c.loop-i.invariant lt
    (omega (arith, lt, same)) (record {
      first = subst (λ s. g.P.Part.Covers x s) part joins.first;
      second = subst (λ s. g.P.Part.Covers x s) other joins.second;
      least = λ w a b.
          joins.least w (subst (λ s. g.P.Part.Covers w s) (sym part) a)
          (subst (λ s. g.P.Part.Covers w s) (sym other) b);
    }) in
    subst (λ xs. AreJoined g.P.Part.Covers xs (take (c.loop-i.i + 1) c.args.parts.now)
    (take (c.loop-i.i + 1) c.args.others.now)) (sym c.in_ok-push.ensures.items) more

pub returns : goal.returns
returns g c =
    let same = all_length g.P.Part.Alike c.args.parts.now c.args.others.now c.requires.alike in
    let past = c.loop-i-test.false in
    all_pushed g.P.Part.Covers c.loop-i.i c.loop-i.joined.items c.args.parts.now
    c.args.others.now c.loop-i.invariant (omega (arith, past)) (omega (arith, past, same))
