use Rattle.std.proofs.Common.{ap}
use Rattle.simulator.specs.Machines.{Entry}
use Rattle.session.proofs.Reported.{line_told, levels_told}
use Rattle.session.proofs.report.Report.add.Goals as goal

pub returns-in_ok-push_line-in-Lines : goal.returns-in_ok-push_line-in-Lines
returns-in_ok-push_line-in-Lines c = λ telling entries so_far.
    let lines = rw c.in-Lines.is at so_far in
    let more = c.in_ok-push_line-in-Lines.ensures in
    line_told telling entries c.args.entry.now c.in-Lines.text c.push_line.new.text more.0 lines
    more.1 more.2

pub returns-in_ok-push-in-Wave : goal.returns-in_ok-push-in-Wave
returns-in_ok-push-in-Wave c = λ telling entries so_far.
    let wave = rw c.in-Wave.is at so_far in
    let place = ap (λ (e : Entry). e.place) c.entry.view_is in
    let samples = ap (λ (e : Entry). e.samples) c.entry.view_is in
    levels_told c.runs_go_on.ensures.ticks telling entries c.args.entry.now c.in-Wave.wave
    c.push.new.self wave
    c.requires.seen (rw (place, samples) at c.in_ok-push-in-Wave.ensures.ok)
    (rw samples at c.in_ok-push-in-Wave.ensures.ticks)
