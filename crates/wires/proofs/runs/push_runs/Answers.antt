use Rattle.std.proofs.Common.{◌≤◌, ◌++◌, arith, refl, length, length-append, false}
use Rattle.wires.specs.declared.runs.Run.{Run}
use Rattle.wires.specs.Runs.{samples_of, most_samples}
use Rattle.wires.proofs.RunJoins.{next_run, has_samples, has_room, joins, all_joined}
use Rattle.wires.proofs.runs.push_runs.Goals as goal

pub loop-run-init : goal.loop-run-init
loop-run-init c =
    record { are = c.requires.runs; rising = c.requires.later.rising; joined = refl }

pub overflow_sub-run : goal.overflow_sub-run
overflow_sub-run c =
    let none : Run = record {
      sample = record { scl = false; sda = false; alert = false };
      end = 0;
    } in
    let next = next_run _ _ _ _ c.args.later.now none c.loop-run-test.true c.loop-run.invariant in
    let more = has_samples _ _ _ _ _ next in
    omega (arith, more)

pub push_run-requires-clause-runs : goal.push_run-requires-clause-runs
push_run-requires-clause-runs c = c.loop-run.invariant.are

pub push_run-requires-clause-few : goal.push_run-requires-clause-few
push_run-requires-clause-few c =
    let first = samples_of c.args.runs.now.items in
    let later = samples_of c.args.later.now in
    let few : length (first ++ later) ≤ most_samples =
    omega (arith, c.requires.few, length-append first later) in
    has_room _ _ _ _ _
    (next_run _ _ _ _ c.args.later.now _ c.loop-run-test.true c.loop-run.invariant) few

pub loop-run-preserved : goal.loop-run-preserved
loop-run-preserved c =
    joins _ _ _ _ _
    (next_run _ _ _ _ c.args.later.now _ c.loop-run-test.true c.loop-run.invariant) _
    c.in_ok-push_run.ensures.runs c.in_ok-push_run.ensures.ok

pub returns-clause-runs : goal.returns-clause-runs
returns-clause-runs c = c.loop-run.invariant.are

pub returns-clause-ok : goal.returns-clause-ok
returns-clause-ok c =
    all_joined _ _ _ c.loop-run.run-index c.args.later.now c.loop-run-test.false
    c.loop-run.invariant
