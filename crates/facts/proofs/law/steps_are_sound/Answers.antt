use Rattle.facts.specs.Steps.{StepsAreSound}
use Rattle.facts.proofs.Sound.Sorts.{sends_message}
use Rattle.facts.proofs.Sound.Whole.{steps_are_sound}
use Rattle.facts.proofs.Witness.Steps.{some_machine_stands}
use Rattle.facts.proofs.law.steps_are_sound.Goals as goal

pub returns-clause-steps : goal.returns-clause-steps
returns-clause-steps c =
    steps_are_sound (record {
      steps = c.steps_are_seen.ensures.steps;
      idle = c.entries_read_back.ensures.none;
      frames = c.safe_steps_are_safe_runs.ensures.frames;
      either = c.steps_stand_alone_or_are_lost.ensures.either;
    })

pub returns-clause-some : goal.returns-clause-some
returns-clause-some c =
    let sound : StepsAreSound =
    steps_are_sound (record {
      steps = c.steps_are_seen.ensures.steps;
      idle = c.entries_read_back.ensures.none;
      frames = c.safe_steps_are_safe_runs.ensures.frames;
      either = c.steps_stand_alone_or_are_lost.ensures.either;
    }) in
    some_machine_stands sound c.steps_are_seen.ensures.steps c.steps_are_seen.ensures.starts
    c.small_programs_are_judged.ensures.some_clearing

pub returns-clause-sends : goal.returns-clause-sends
returns-clause-sends c = sends_message
