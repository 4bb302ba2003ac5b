use Rattle.simulator.proofs.EndingProgram.{ending_is_safe}
use Rattle.simulator.proofs.EnablingProgram.{enabling_at_once_is_unsafe}
use Rattle.simulator.proofs.EnablingProgram.{margins_at_once_are_unsafe}
use Rattle.simulator.proofs.UnsafePrograms.{protected_write_is_unsafe, voltage_over_limit_is_unsafe}
use Rattle.simulator.proofs.UnsafePrograms.{margins_over_limit_are_unsafe}
use Rattle.simulator.proofs.UnlistedForm.{unlisted_form_is_unsafe}
use Rattle.simulator.proofs.WithdrawnNeed.{withdrawn_need_is_unsafe}
use Rattle.targets.specs.PlaceLaws.{TargetsAreFound}
use Rattle.simulator.specs.EntryLaws.{IdleReadsBack}
use Rattle.simulator.specs.SafeLaws.{AllowedFramesAreSeen, SafeStepsAreSafeRuns}
use Rattle.simulator.specs.StepLaws.{StepsAreSeen, StartsAreReady}
use Rattle.simulator.proofs.OneMessage.{KnownOfSteps}
use Rattle.simulator.proofs.SafePrograms.{listed_send_is_safe, clearing_is_safe}
use Rattle.simulator.proofs.SafePrograms.{voltage_within_limit_is_safe}
use Rattle.simulator.proofs.SafePrograms.{enabling_without_needs_is_safe}
use Rattle.simulator.proofs.JudgedPrograms.{some_send_is_listed, some_voltage_is_within}
use Rattle.simulator.proofs.JudgedPrograms.{some_rail_has_no_needs, some_form_is_unlisted}
use Rattle.simulator.proofs.JudgedPrograms.{some_write_is_protected, some_voltage_is_over}
use Rattle.simulator.proofs.JudgedPrograms.{some_rail_has_needs, some_need_is_withdrawn}
use Rattle.simulator.proofs.JudgedPrograms.{some_clearing_is_listed}
use Rattle.simulator.proofs.law.small_programs_are_judged.Goals as goal

pub returns-clause-ends : goal.returns-clause-ends
returns-clause-ends c =
    ending_is_safe c.some_answer_fits.ensures.silence c.entries_read_back.ensures.none

pub returns-clause-enables : goal.returns-clause-enables
returns-clause-enables c =
    enabling_at_once_is_unsafe c.steps_are_seen.ensures.steps c.steps_are_seen.ensures.starts

pub returns-clause-protects : goal.returns-clause-protects
returns-clause-protects c =
    protected_write_is_unsafe c.steps_are_seen.ensures.steps c.steps_are_seen.ensures.starts

pub returns-clause-limits : goal.returns-clause-limits
returns-clause-limits c =
    voltage_over_limit_is_unsafe c.steps_are_seen.ensures.steps c.steps_are_seen.ensures.starts

pub returns-clause-margins : goal.returns-clause-margins
returns-clause-margins c =
    margins_at_once_are_unsafe c.steps_are_seen.ensures.steps c.steps_are_seen.ensures.starts

pub returns-clause-margin_limits : goal.returns-clause-margin_limits
returns-clause-margin_limits c =
    margins_over_limit_are_unsafe c.steps_are_seen.ensures.steps c.steps_are_seen.ensures.starts

pub returns-clause-lists : goal.returns-clause-lists
returns-clause-lists c =
    unlisted_form_is_unsafe c.steps_are_seen.ensures.steps c.steps_are_seen.ensures.starts
    c.messages_have_one_frame.ensures.one c.targets_are_found.ensures
    c.entries_read_back.ensures.foreign c.contenders_may_win.ensures.driven

pub returns-clause-withdraws : goal.returns-clause-withdraws
returns-clause-withdraws c =
    withdrawn_need_is_unsafe c.steps_are_seen.ensures.steps c.steps_are_seen.ensures.starts
    c.ranges_are_of_forms.ensures.values

-- the laws on steps and runs
known : StepsAreSeen → StartsAreReady → IdleReadsBack → AllowedFramesAreSeen → SafeStepsAreSafeRuns
    → TargetsAreFound → KnownOfSteps
known steps ready idle frames runs found = record {
  steps = steps;
  ready = ready;
  idle = idle;
  frames = frames;
  runs = runs;
  found = found;
}

pub returns-clause-sends : goal.returns-clause-sends
returns-clause-sends c =
    listed_send_is_safe (known c.steps_are_seen.ensures.steps c.steps_are_seen.ensures.starts
    c.entries_read_back.ensures.none c.safe_steps_are_safe_runs.ensures.frames
    c.safe_steps_are_safe_runs.ensures.runs c.targets_are_found.ensures)

pub returns-clause-clears : goal.returns-clause-clears
returns-clause-clears c =
    clearing_is_safe (known c.steps_are_seen.ensures.steps c.steps_are_seen.ensures.starts
    c.entries_read_back.ensures.none c.safe_steps_are_safe_runs.ensures.frames
    c.safe_steps_are_safe_runs.ensures.runs c.targets_are_found.ensures)

pub returns-clause-commands : goal.returns-clause-commands
returns-clause-commands c =
    voltage_within_limit_is_safe (known c.steps_are_seen.ensures.steps
    c.steps_are_seen.ensures.starts c.entries_read_back.ensures.none
    c.safe_steps_are_safe_runs.ensures.frames c.safe_steps_are_safe_runs.ensures.runs
    c.targets_are_found.ensures)

pub returns-clause-turns_on : goal.returns-clause-turns_on
returns-clause-turns_on c =
    enabling_without_needs_is_safe (known c.steps_are_seen.ensures.steps
    c.steps_are_seen.ensures.starts c.entries_read_back.ensures.none
    c.safe_steps_are_safe_runs.ensures.frames c.safe_steps_are_safe_runs.ensures.runs
    c.targets_are_found.ensures)

pub returns-clause-some_send : goal.returns-clause-some_send
returns-clause-some_send c = some_send_is_listed

pub returns-clause-some_clearing : goal.returns-clause-some_clearing
returns-clause-some_clearing c = some_clearing_is_listed

pub returns-clause-some_voltage : goal.returns-clause-some_voltage
returns-clause-some_voltage c = some_voltage_is_within

pub returns-clause-some_rail : goal.returns-clause-some_rail
returns-clause-some_rail c = some_rail_has_no_needs

pub returns-clause-unlisted : goal.returns-clause-unlisted
returns-clause-unlisted c = some_form_is_unlisted

pub returns-clause-protected : goal.returns-clause-protected
returns-clause-protected c = some_write_is_protected

pub returns-clause-over : goal.returns-clause-over
returns-clause-over c = some_voltage_is_over

pub returns-clause-needed : goal.returns-clause-needed
returns-clause-needed c = some_rail_has_needs

pub returns-clause-withdrawn : goal.returns-clause-withdrawn
returns-clause-withdrawn c = some_need_is_withdrawn
