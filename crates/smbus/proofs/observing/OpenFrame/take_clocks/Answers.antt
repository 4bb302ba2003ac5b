use Rattle.std.proofs.Common.{◌++◌, Some, arith, drop}
use Rattle.std.proofs.lemmas.List.{take_rest}
use Rattle.smbus.specs.Clocks.{events_in}
use Rattle.smbus.specs.Frames.{rises}
use Rattle.smbus.specs.Machine.{state_of, Leads}
use Rattle.smbus.proofs.WholeBytes.{leads_none, leads_byte}
use Rattle.smbus.proofs.observing.OpenFrame.take_clocks.Goals as goal

pub loop-byte-init : goal.loop-byte-init
loop-byte-init c = record {
  leads = λ frames. rw c.in_ok-reserve.ensures.items (leads_none _ _);
  none = c.requires;
  fewer = omega arith;
}

pub loop-byte-preserved : goal.loop-byte-preserved
loop-byte-preserved c =
    let self = c.loop-byte.self in
    let byte = c.in-Some.ensures.byte in
    let later = events_in (drop 18 c.loop-byte.rest.now) in
    record {
      leads = λ frames.
          let so_far : Leads (state_of frames (Some c.args.self.now)) (events_in c.args.runs.now)
          (state_of frames (Some self)) (rises byte.bits ++ later) =
          rw (← byte.read) (c.loop-byte.invariant.leads frames) in
          rw (
            take_rest c.loop-byte.rest.now 18,
            c.in_ok-push.ensures.items,
            c.loop-byte.invariant.none,
            byte.is,
          )
          (leads_byte (state_of frames (Some c.args.self.now)) (events_in c.args.runs.now) later
          frames self.segments.items self.bytes.items byte.bits byte.bit byte.more byte.nine
          byte.next (rw c.loop-byte.invariant.none at so_far));
      none = c.loop-byte.invariant.none;
      fewer = omega (arith, c.in-Some.ensures.long, c.loop-byte.invariant.fewer);
    }
