use Rattle.std.proofs.Common.{◌≡◌, ◌<◌, ◌++◌, Some, List, ap, arith, drop, length, sym}
use Rattle.std.proofs.Common.{◌∙◌}
use Rattle.std.proofs.lemmas.List.{length-map}
use Rattle.wires.specs.declared.event.Event.{Event}
use Rattle.wires.specs.declared.event.Event.TheVariants.{Rise}
use Rattle.smbus.specs.Frames.{rises}
use Rattle.smbus.specs.Machine.{state_of, Leads}
use Rattle.smbus.proofs.WholeBytes.{leads_none, leads_byte, begins_with}
use Rattle.smbus.proofs.observing.OpenFrame.take_bytes.Goals as goal

pub loop-rest-init : goal.loop-rest-init
loop-rest-init c = record {
  leads = λ frames. rw c.in_ok-reserve.ensures.items (leads_none _ _);
  none = c.requires;
  fewer = omega arith;
}

pub loop-rest-preserved : goal.loop-rest-preserved
loop-rest-preserved c =
    let self = c.loop-rest.self in
    let later : List Event = c.split_at.result.1.now in
    let byte = c.in-Some.ensures in
    let rise = c.is_rise.ensures c.if-not-is_rise.false in
    let nine : length byte.0 ≡ 9 =
    sym (length-map byte.0 Rise) ∙ sym (ap length byte.1) ∙ c.split_at.ensures.front_len in
    let some : 0 < length later =
    omega (arith, c.split_at.ensures.back_len, c.loop-rest-test.true) in
    let parts : c.loop-rest.rest.now ≡ rises byte.0 ++ later =
    c.split_at.ensures.by_index.0 ∙ ap (λ l. l ++ later) byte.1 in
    record {
      leads = λ frames.
          let so_far : Leads (state_of frames (Some c.args.self.now)) c.args.events.now
          (state_of frames (Some self)) (rises byte.0 ++ later) =
          rw (← parts) (c.loop-rest.invariant.leads frames) in
          rw (c.in_ok-push.ensures.items, c.loop-rest.invariant.none, byte.2)
          (leads_byte (state_of frames (Some c.args.self.now)) c.args.events.now later frames
          self.segments.items self.bytes.items byte.0 rise.0 (drop 1 later) nine
          (begins_with later _ (Rise rise.0) some rise.1)
          (rw c.loop-rest.invariant.none at so_far));
      none = c.loop-rest.invariant.none;
      fewer = omega (
        arith,
        c.split_at.ensures.back_len,
        c.loop-rest.invariant.fewer,
      );
    }
