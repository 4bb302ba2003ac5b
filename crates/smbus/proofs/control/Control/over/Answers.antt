use Rattle.std.proofs.Common.{sym, ◌∙◌}
use Rattle.smbus.proofs.Controlled.{control-more, not_none}
use Rattle.smbus.proofs.control.Control.over.Goals as goal

pub returns-in_default : goal.returns-in_default
returns-in_default c = record {
  after = (
    c.loop-place-test.true,
    not_none _ c.loop-place.control c.loop-place.invariant,
    control-more c.args.events.now c.loop-place.place c.args.self c.loop-place.control _
        c.loop-place-test.true c.loop-place.invariant
        ∙ sym c.after.ensures ∙ c.in_default.is,
  );
}

pub loop-place-preserved : goal.loop-place-preserved
loop-place-preserved c =
    control-more c.args.events.now c.loop-place.place c.args.self c.loop-place.control _
    c.loop-place-test.true c.loop-place.invariant
    ∙ sym c.after.ensures ∙ c.in-Some.is
