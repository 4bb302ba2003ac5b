use Rattle.std.proofs.Common.{◌≢◌, All, take}
use Rattle.std.specs.Prelude.{MatchOption}
use Rattle.wires.specs.declared.event.Event.TheVariants.{Stop}
use Rattle.smbus.specs.Control.{IsBehindStop}
use Rattle.smbus.proofs.observer.behind_last_stop.Given as goal

abbrev pub invariant-loop-place : goal.invariant-loop-place
invariant-loop-place l =
    MatchOption l.behind (All (λ e. e ≢ Stop) (take l.place l.events))
    (IsBehindStop (take l.place l.events))
