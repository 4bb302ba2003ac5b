use Rattle.std.proofs.Common.{◌≡◌, ◌-◌, ◌∷◌, [], List, Some, drop, get_or, length, take, sym}
use Rattle.std.proofs.Common.{◌∙◌, arith, subst}
use Rattle.std.proofs.lemmas.Bool.{MatchBool-at_true, MatchBool-at_false}
use Rattle.wires.specs.declared.event.Event.{Event}
use Rattle.wires.specs.declared.event.Event.TheVariants.{Start}
use Rattle.smbus.specs.Frames.{FailsAt}
use Rattle.smbus.specs.Machine.{State, reading_of, run, start, Leads}
use Rattle.smbus.proofs.EventByEvent.{fails_open, frames_read, only_read}
use Rattle.smbus.proofs.Observed.{never_fails}
use Rattle.smbus.proofs.WholeBytes.{leads_none, leads_on, leads_all, leads_stop}
use Rattle.smbus.proofs.WholeBytes.{first_and_later}
use Rattle.smbus.proofs.observing.observe.Goals as goal

pub loop-rest-init : goal.loop-rest-init
loop-rest-init c = rw c.new-reading.ensures (leads_none start c.args.events.now)

pub loop-rest-preserved : goal.loop-rest-preserved
loop-rest-preserved c =
    let rest : List Event = c.loop-rest.rest.now in
    let goes = MatchBool-at_true _ _ c.if-not-branch.false c.in_ok-accept.ensures in
    leads_on start (reading_of c.loop-rest.reading) (reading_of c.accept.new.self)
    (reading_of c.take_bytes.new.self) c.args.events.now
    (take (length rest - 1) (drop 1 rest)) c.in_ok-rest.rest.now (get_or rest 0 Start)
    (subst (Leads start c.args.events.now (reading_of c.loop-rest.reading))
    (first_and_later rest Start c.in-len1-up.len_at_least) c.loop-rest.invariant) goes
    c.in_ok-rest.ensures.leads

-- no frames go on from here
pub returns-then-not-branch-clause-fault : goal.returns-then-not-branch-clause-fault
returns-then-not-branch-clause-fault c =
    let rest : List Event = c.loop-rest.rest.now in
    let parts = first_and_later rest Start c.in-len1-up.len_at_least in
    let stops = MatchBool-at_false _ _ c.if-not-branch.true c.in_ok-accept.ensures in
    subst (λ l. FailsAt c.args.events.now (length c.args.events.now - length l)) (sym parts)
    (leads_stop (reading_of c.loop-rest.reading) c.args.events.now
    (take (length rest - 1) (drop 1 rest)) (get_or rest 0 Start)
    (subst (Leads start c.args.events.now (reading_of c.loop-rest.reading)) parts
    c.loop-rest.invariant) stops)

pub returns-then-not-branch-clause-none : goal.returns-then-not-branch-clause-none
returns-then-not-branch-clause-none c known frames are =
    never_fails c.args.events.now frames _ are (returns-then-not-branch-clause-fault c)

-- where nothing is left, all events were read

nothing_left : (events rest : List Event) (s : State) → length rest ≡ 0
    → Leads start events s rest → run events start ≡ Some s
nothing_left events [] s none l = leads_all start s events l
nothing_left events (e ∷ later) s none l = absurd (omega (arith, none))

-- a frame hasn't ended
pub returns-then-is_some-clause-fault : goal.returns-then-is_some-clause-fault
returns-then-is_some-clause-fault c =
    fails_open c.args.events.now (reading_of c.loop-rest.reading)
    (nothing_left c.args.events.now c.loop-rest.rest.now (reading_of c.loop-rest.reading)
    (omega (arith, c.in_default.len_below)) c.loop-rest.invariant)
    (sym c.is_some.ensures ∙ c.if-is_some.true)

pub returns-then-is_some-clause-none : goal.returns-then-is_some-clause-none
returns-then-is_some-clause-none c known frames are =
    never_fails c.args.events.now frames _ are (returns-then-is_some-clause-fault c)

pub returns-clause-frames : goal.returns-clause-frames
returns-clause-frames c =
    frames_read c.args.events.now (reading_of c.loop-rest.reading)
    (nothing_left c.args.events.now c.loop-rest.rest.now (reading_of c.loop-rest.reading)
    (omega (arith, c.in_default.len_below)) c.loop-rest.invariant)
    (sym c.is_some.ensures ∙ c.if-is_some.false)

pub returns-clause-only : goal.returns-clause-only
returns-clause-only c =
    only_read c.args.events.now (reading_of c.loop-rest.reading)
    (nothing_left c.args.events.now c.loop-rest.rest.now (reading_of c.loop-rest.reading)
    (omega (arith, c.in_default.len_below)) c.loop-rest.invariant)
