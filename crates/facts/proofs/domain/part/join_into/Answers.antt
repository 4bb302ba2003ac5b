use Rattle.std.proofs.Common.{slice_index_or, sym, subst, arith}
use Rattle.facts.proofs.Coded.Joining.{same_length, alike_at, joined_more, all_joined}
use Rattle.facts.proofs.domain.part.join_into.Goals as goal

pub offset_bounds-others-i : goal.offset_bounds-others-i
offset_bounds-others-i g c =
    let same =
    same_length g.P.Part.Alike g.P.Part.Covers c.loop-i.i c.loop-i.parts c.args.parts.now
    c.args.others.now c.loop-i.invariant in
    let lt = c.loop-i-test.true in
    let long = c.loop-i.auto.parts in
    omega (arith, same, lt, long)

pub bounds-others-i : goal.bounds-others-i
bounds-others-i g c =
    let same =
    same_length g.P.Part.Alike g.P.Part.Covers c.loop-i.i c.loop-i.parts c.args.parts.now
    c.args.others.now c.loop-i.invariant in
    let lt = c.loop-i-test.true in
    let long = c.loop-i.auto.parts in
    omega (arith, same, lt, long)

pub join-requires : goal.join-requires
join-requires g c =
    let lt = c.loop-i-test.true in
    let long = c.loop-i.auto.parts in
    let alike =
    alike_at g.P.Part.Alike g.P.Part.Covers c.loop-i.i c.loop-i.parts c.args.parts.now
    c.args.others.now c.index-parts-i.result c.index-others-i.result c.loop-i.invariant
    (omega (arith, lt, long)) in
    subst (λ x. g.P.Part.Alike (slice_index_or c.loop-i.parts c.loop-i.i c.index-parts-i.result) x)
    (sym c.index-others-i.is) alike

pub loop-i-preserved : goal.loop-i-preserved
loop-i-preserved g c =
    let lt = c.loop-i-test.true in
    let long = c.loop-i.auto.parts in
    joined_more g.P.Part.Alike g.P.Part.Covers c.loop-i.i c.loop-i.parts c.args.parts.now
    c.args.others.now c.in_ok-parts.field-0 c.index-parts-i.result c.index-others-i.result
    c.loop-i.invariant (omega (arith, lt, long)) (record {
      first = c.in_ok-parts.ensures.first;
      second = rw (← c.index-others-i.is) c.in_ok-parts.ensures.second;
      least = λ w a b. c.in_ok-parts.ensures.least w a (rw c.index-others-i.is b);
    })

pub returns : goal.returns
returns g c =
    let past = c.loop-i-test.false in
    let long = c.loop-i.auto.parts in
    all_joined g.P.Part.Alike g.P.Part.Covers c.loop-i.i c.loop-i.parts c.args.parts.now
    c.args.others.now c.loop-i.invariant (omega (arith, past, long))
