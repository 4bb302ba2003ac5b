use Rattle.std.proofs.Common.{length}
use Rattle.session.specs.Reports.{telling_of}
use Rattle.session.proofs.Told.{IsToldTo}
use Rattle.session.proofs.Watching.{IsWatched}
use Rattle.session.proofs.tracing.tell_steps.Given as goal

abbrev pub invariant-loop-stage : goal.invariant-loop-stage
invariant-loop-stage l = record {
  told :
      IsToldTo (telling_of l.fn.report) l.scenario l.answers l.index l.ticks l.stage.machine
      l.report;
  watched : IsWatched l.scenario l.answers l.index l.ticks l.stage.machine l.watch;
}

abbrev pub decreases-loop-stage : goal.decreases-loop-stage
decreases-loop-stage l = length l.answers
