use Rattle.std.proofs.Common.{◌++◌, ◌+◌, length, ◌∙◌, ap, arith, string_bytes}
use Rattle.wires.specs.Waves.{Drawn}
use Rattle.wires.proofs.NextStep.{ends_within, wave_by_parts}
use Rattle.wires.proofs.wave.Wave.push.Goals as goal

pub step_text-requires : goal.step_text-requires
step_text-requires c = λ k d lt.
    omega (
      arith,
      ends_within c.runs-runs.result.now k d c.runs-runs.ensures.runs.rising lt,
      ap length c.runs-runs.ensures.samples,
      ap (λ w. w.ticks) c.self.view_is,
      c.requires,
    )

pub returns-clause-ok : goal.returns-clause-ok
returns-clause-ok c = λ steps is.
    let wave : Drawn = record {
      text = string_bytes c.self.inside.text;
      ticks = c.self.inside.ticks;
      levels = c.self.inside.levels;
    } in
    wave_by_parts steps c.args.self.now wave c.args.place c.runs-runs.result.now c.args.samples.now
    (string_bytes c.push_str.new.self) (c.self.inside.ticks + c.total.result)
    c.levels_behind-self-inside.result is c.self.view_is c.runs-runs.ensures.runs.rising
    c.runs-runs.ensures.samples
    (c.in_ok-push_str.ensures.bytes
    ∙ ap (λ t. string_bytes c.self.inside.text ++ t) (c.deref.ensures ∙ c.in_ok-step.ensures))
    (ap (λ n. c.self.inside.ticks + n) c.total.ensures.total)
    c.levels_behind-self-inside.ensures
