use Rattle.std.proofs.Common.{◌≡◌, Bool, true, false}
use Rattle.smbus.proofs.PiecesRead.{stop_here, no_stop_here}
use Rattle.smbus.proofs.observer.behind_last_stop.Goals.{in-Stop, in_default}
use Rattle.smbus.proofs.observer.behind_last_stop.Goals.{then-matches, else-matches}
use Rattle.smbus.proofs.observer.behind_last_stop.Goals as goal

both : (b : Bool) → b ≡ true → b ≡ false → ⊥
both b t f = cc

pub loop-place-preserved : goal.loop-place-preserved
loop-place-preserved c = elim c.match-matches.branch [
  | in-Stop v ↦ elim c.if-matches.branch [
    | then-matches w ↦
        stop_here c.args.events.now c.loop-place.place _ c.loop-place-test.true v.in-Stop.is
        c.if-matches.behind w.behind-is
    | else-matches w ↦ absurd (both _ v.matches-is w.if-matches.false)
  ]
  | in_default v ↦ elim c.if-matches.branch [
    | then-matches w ↦ absurd (both _ w.if-matches.true v.matches-is)
    | else-matches w ↦
        no_stop_here c.args.events.now c.loop-place.place _ c.loop-place-test.true
        v.in_default.not-Stop c.loop-place.behind c.if-matches.behind w.behind-is
        c.loop-place.invariant
  ]
]
