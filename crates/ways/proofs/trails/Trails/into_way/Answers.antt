use Rattle.std.proofs.Common.{◌∙◌, Option, subst, sym}
use Rattle.ways.proofs.Following.{IsFollowed, followed_on}
use Rattle.ways.proofs.trails.Trails.into_way.Goals as goal

pub loop-next-preserved : goal.loop-next-preserved
loop-next-preserved c =
    let all = c.args.self.trails.items in
    let old = subst (λ (next : Option _).
    IsFollowed all c.loop-next.trails.items c.args.number next c.loop-next.way.items)
    c.in-Some.is c.loop-next.invariant in
    let cut = sym c.truncate.ensures.items ∙ c.in-Some-pop.ensures.items in
    subst (IsFollowed all c.pop.new.self.items c.args.number c.in-Some-pop.field-0.before)
    (sym c.in_ok-push_front.ensures.items)
    (followed_on all c.loop-next.trails.items c.pop.new.self.items c.args.number c.in-Some.number
    c.loop-next.way.items c.in-Some-pop.field-0 c.requires.ordered old cut)
