use Rattle.std.proofs.Common.{◌≤◌, ◌+◌, length, ap, ◌∙◌}
use Rattle.wires.specs.Runs.{most_samples, samples_of}
use Rattle.wires.proofs.Clocks.{clocked_samples, clocked_runs, clocked_end, clocked_high}
use Rattle.wires.proofs.runs.appending.Appending.push_clock.Goals as goal

pub invariant_of-self : goal.invariant_of-self
invariant_of-self c =
    let old = c.self.inside.runs.items in
    let ends = c.self.invariant.1 in
    let few : length (samples_of old) + c.args.low + 1 ≤ most_samples =
    rw (← c.self.view_is) at c.requires.few in
    let p = c.push_low.ensures in
    rw c.begin_run.ensures.items (
      clocked_runs old _ c.self.inside.end c.args.low c.args.sda c.args.alert ends few p.runs
          p.samples p.last,
      clocked_end old _ c.self.inside.end c.args.low c.args.sda c.args.alert ends few p.runs
          p.samples p.last,
      clocked_high old _ c.self.inside.end c.args.low c.args.sda c.args.alert ends few p.runs
          p.samples p.last,
    )

pub returns-clause-samples : goal.returns-clause-samples
returns-clause-samples c =
    let old = c.self.inside.runs.items in
    let ends = c.self.invariant.1 in
    let few : length (samples_of old) + c.args.low + 1 ≤ most_samples =
    rw (← c.self.view_is) at c.requires.few in
    let p = c.push_low.ensures in
    rw (← c.self.view_is) (ap samples_of c.begin_run.ensures.items
    ∙ clocked_samples old _ c.self.inside.end c.args.low c.args.sda c.args.alert ends few p.runs
    p.samples p.last)
