use Rattle.std.proofs.Common.{Some, [], ◌∷◌, ◌++◌, refl, sym, ap, ◌∙◌}
use Rattle.smbus.specs.Machine.{state_of}
use Rattle.smbus.proofs.StatesOfEvents.{Segments}
use Rattle.smbus.proofs.FramesTaken.{closed}
use Rattle.smbus.proofs.EventByEvent.{stops, stays}
use Rattle.smbus.proofs.observing.OpenFrame.ended.Goals as goal

pub returns-then-last : goal.returns-then-last
returns-then-last c frames =
    stays (state_of frames (Some c.args.self)) c.pop.new.self.items c.in-Some.last refl
    c.in-Some.ensures.items c.if-last.true

pub returns : goal.returns
returns c frames =
    stops (state_of frames (Some c.args.self)) c.pop.new.self.items c.in-Some.last refl
    c.in-Some.ensures.items c.if-last.false
    ∙ ap (λ (l : Segments). Some (closed (frames ++ record {
      segments = l;
      tail = c.pop.new.self.items;
    } ∷ []))) (sym c.in_ok-push.ensures.items)
