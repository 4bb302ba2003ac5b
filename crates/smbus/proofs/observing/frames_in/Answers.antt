use Rattle.std.proofs.Common.{arith, sym, ◌∙◌}
use Rattle.std.proofs.lemmas.Bool.{MatchBool-at_true, MatchBool-at_false}
use Rattle.std.proofs.lemmas.List.{take_rest}
use Rattle.smbus.specs.Clocks.{events_in}
use Rattle.smbus.specs.Machine.{reading_of, start}
use Rattle.smbus.proofs.EventByEvent.{fails_open, frames_read, only_read}
use Rattle.smbus.proofs.Observed.{never_fails}
use Rattle.smbus.proofs.ReadClocks.{leads_between, fails_between, all_read}
use Rattle.smbus.proofs.WholeBytes.{leads_none}
use Rattle.smbus.proofs.observing.frames_in.Goals as goal

pub loop-rest-init : goal.loop-rest-init
loop-rest-init c = rw c.new-reading.ensures (leads_none start (events_in c.args.runs.now))

pub returns-then-not-branch-clause-none : goal.returns-then-not-branch-clause-none
returns-then-not-branch-clause-none c =
    let stops = MatchBool-at_false _ _ c.if-not-branch.true c.in_ok-advance.ensures in
    fails_between (reading_of c.loop-rest.reading) (events_in c.args.runs.now) c.loop-rest.rest.now
    _ c.in-len2-up.len_at_least c.loop-rest.invariant stops

pub loop-rest-preserved : goal.loop-rest-preserved
loop-rest-preserved c =
    let goes = MatchBool-at_true _ _ c.if-not-branch.false c.in_ok-advance.ensures in
    leads_between (reading_of c.loop-rest.reading) (reading_of c.advance.new.self)
    (reading_of c.take_clocks.new.self) (events_in c.args.runs.now)
    (events_in c.in_ok-rest.rest.now) c.loop-rest.rest.now _ c.in-len2-up.len_at_least
    c.loop-rest.invariant goes (rw (take_rest c.loop-rest.rest.now 1) at c.in_ok-rest.ensures.leads)

pub returns-then-is_some-clause-none : goal.returns-then-is_some-clause-none
returns-then-is_some-clause-none c frames are =
    never_fails (events_in c.args.runs.now) frames _ are
    (fails_open (events_in c.args.runs.now) (reading_of c.loop-rest.reading)
    (all_read (events_in c.args.runs.now) (reading_of c.loop-rest.reading) c.loop-rest.rest.now
    (omega (arith, c.in_default.len_below)) c.loop-rest.invariant)
    (sym c.is_some.ensures ∙ c.if-is_some.true))

pub returns-clause-frames : goal.returns-clause-frames
returns-clause-frames c =
    frames_read (events_in c.args.runs.now) (reading_of c.loop-rest.reading)
    (all_read (events_in c.args.runs.now) (reading_of c.loop-rest.reading) c.loop-rest.rest.now
    (omega (arith, c.in_default.len_below)) c.loop-rest.invariant)
    (sym c.is_some.ensures ∙ c.if-is_some.false)

pub returns-clause-only : goal.returns-clause-only
returns-clause-only c =
    only_read (events_in c.args.runs.now) (reading_of c.loop-rest.reading)
    (all_read (events_in c.args.runs.now) (reading_of c.loop-rest.reading) c.loop-rest.rest.now
    (omega (arith, c.in_default.len_below)) c.loop-rest.invariant)
