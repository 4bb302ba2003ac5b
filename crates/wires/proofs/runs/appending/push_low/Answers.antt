use Rattle.std.proofs.Common.{◌≡◌, ◌≢◌, ◌+◌, ◌-◌, ℕ, List, true, false, length, ap}
use Rattle.std.proofs.Common.{arith, sym, ◌∙◌}
use Rattle.wires.specs.Drawing.{levels_behind}
use Rattle.wires.specs.Marks.{free_bus}
use Rattle.wires.specs.Runs.{samples_of}
use Rattle.wires.specs.declared.lines.Sample.{Sample}
use Rattle.wires.specs.declared.runs.Run.{Run}
use Rattle.wires.proofs.LastRun.{behind-push, behind_other}
use Rattle.wires.proofs.RunEnds.{samples_of-push, are_runs-push}
use Rattle.wires.proofs.runs.appending.push_low.Goals as goal

pub returns-then-is_high-clause-runs : goal.returns-then-is_high-clause-runs
returns-then-is_high-clause-runs c =
    let runs : List Run = c.args.runs.now.items in
    let count : ℕ = c.args.end - length (samples_of runs) in
    let r : Run = record { sample = c.args.low; end = c.args.end } in
    let ends : r.end ≡ length (samples_of runs) + count = omega (arith, c.requires.more) in
    let high : (levels_behind free_bus runs).scl ≡ true =
    sym c.requires.high ∙ c.if-is_high.true in
    let other : levels_behind free_bus runs ≢ c.args.low = λ same.
    let e : true ≡ false = sym high ∙ ap (λ (s : Sample). s.scl) same ∙ c.requires.low in cc in
    rw c.begin_run.ensures.items
    (are_runs-push runs r count c.requires.runs (omega (arith, c.requires.more)) ends
    c.requires.few (behind_other free_bus runs c.args.low other))

pub returns-then-is_high-clause-samples : goal.returns-then-is_high-clause-samples
returns-then-is_high-clause-samples c =
    let runs : List Run = c.args.runs.now.items in
    let r : Run = record { sample = c.args.low; end = c.args.end } in
    let ends : r.end ≡ length (samples_of runs) + (c.args.end - length (samples_of runs)) =
    omega (arith, c.requires.more) in
    ap samples_of c.begin_run.ensures.items
    ∙ samples_of-push runs r (c.args.end - length (samples_of runs)) c.requires.runs.rising ends

pub returns-then-is_high-clause-last : goal.returns-then-is_high-clause-last
returns-then-is_high-clause-last c = λ levels.
    let r : Run = record { sample = c.args.low; end = c.args.end } in
    rw c.begin_run.ensures.items (behind-push levels c.args.runs.now.items r)
