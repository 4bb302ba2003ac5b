-- What a bundle asks for, and the reply to it.
use Rattle.std.specs.Prelude.{ℕ, List, [], Result, Ok, slice_index_or}
use Rattle.std.specs.Str.Lines.{lines}
use Rattle.texts.specs.Reading.{◌>>=◌}
use Rattle.bundles.specs.declared.command.Command.{Command}
use Rattle.bundles.specs.declared.command.Command.TheVariants as commands
use Rattle.session.specs.declared.report.Telling.{Telling}
use Rattle.session.specs.declared.report.Telling.TheVariants.{Lines, Levels}
use Rattle.session.specs.declared.scenario.Scenario.{Scenario}
use Rattle.session.specs.declared.sequence.Sequence.{Sequence}
use Rattle.session.specs.declared.fault.InputFault.{InputFault}
use Rattle.session.specs.declared.fault.InputFault.TheVariants as faults
use Rattle.session.specs.Faults.{faulted}
use Rattle.bundles.specs.Bundles.{Line, Section, Bundle, bundle_of}
use Rattle.bundles.specs.declared.message.Exchange.{Exchange}
use Rattle.bundles.specs.Messages.{exchange_in}
use Rattle.bundles.specs.Seeds.{seed_in}
use Rattle.session.specs.Replies.{Reply}
use Rattle.session.specs.FrameReplies.{IsFrameReply}
use Rattle.session.specs.RunReplies.{IsRunReply}
use Rattle.session.specs.CheckReplies.{IsCheckReply}
use Rattle.session.specs.SearchReplies.{IsFindReply, IsVerifyReply}
use Rattle.session.specs.DraftReplies.{IsDraftReply}
use Rattle.session.specs.Planned.{Planned, planned_in}
use Rattle.session.specs.PlayReplies.{IsPlayReply, IsRefuteReply}
use Rattle.session.specs.Scenarios.{scenario_in}
use Rattle.session.specs.Sequences.{sequence_in}
use Rattle.session.specs.Trials.{Trial, trial_in}

-- a message with its answer, a program with answers, whose run or whose levels are told, a program
-- with a table, a program alone, a program with a seed, or a plan
pub data Task : Type 0 where
  Frame : (exchange : Exchange) → Task
  Run : (scenario : Scenario) → Task
  Wave : (scenario : Scenario) → Task
  Check : (trial : Trial) → Task
  Find : (sequence : Sequence) → Task
  Verify : (sequence : Sequence) → Task
  Play : (sequence : Sequence) (seed : ℕ) → Task
  Refute : (sequence : Sequence) → Task
  Draft : (planned : Planned) → Task

abbrev pub section_at : List Section → ℕ → Section
section_at sections place = slice_index_or sections place (record { first_line = 0; lines = [] })

-- what each command asks for, from its sections in order
abbrev pub frame_task : Section → Result Task InputFault
frame_task message =
    faulted faults.Bundle (exchange_in message) >>= λ exchange. Ok (Frame exchange)

abbrev pub told_task : Telling → Scenario → Task
told_task Lines scenario = Run scenario
told_task Levels scenario = Wave scenario

abbrev pub run_task : Telling → Section → Section → Section → Result Task InputFault
run_task telling on program answered =
    scenario_in on program answered >>= λ scenario. Ok (told_task telling scenario)

abbrev pub check_task : Section → Section → Section → Result Task InputFault
check_task on program table = trial_in on program table >>= λ trial. Ok (Check trial)

abbrev pub find_task : Section → Section → Result Task InputFault
find_task on program = sequence_in on program >>= λ sequence. Ok (Find sequence)

abbrev pub verify_task : Section → Section → Result Task InputFault
verify_task on program = sequence_in on program >>= λ sequence. Ok (Verify sequence)

abbrev pub play_task : Section → Section → Section → Result Task InputFault
play_task on program seed =
    sequence_in on program >>= λ sequence. faulted faults.Bundle (seed_in seed) >>= λ seed.
    Ok (Play sequence seed)

abbrev pub refute_task : Section → Section → Result Task InputFault
refute_task on program = sequence_in on program >>= λ sequence. Ok (Refute sequence)

abbrev pub draft_task : Section → Section → Result Task InputFault
draft_task on plan = planned_in on plan >>= λ planned. Ok (Draft planned)

abbrev pub asked_by : Command → List Section → Result Task InputFault
asked_by commands.Frame sections = frame_task (section_at sections 0)
asked_by commands.Run sections =
    run_task Lines (section_at sections 0) (section_at sections 1) (section_at sections 2)
asked_by commands.Wave sections =
    run_task Levels (section_at sections 0) (section_at sections 1) (section_at sections 2)
asked_by commands.Check sections =
    check_task (section_at sections 0) (section_at sections 1) (section_at sections 2)
asked_by commands.Find sections = find_task (section_at sections 0) (section_at sections 1)
asked_by commands.Verify sections = verify_task (section_at sections 0) (section_at sections 1)
asked_by commands.Play sections =
    play_task (section_at sections 0) (section_at sections 1) (section_at sections 2)
asked_by commands.Refute sections = refute_task (section_at sections 0) (section_at sections 1)
asked_by commands.Draft sections = draft_task (section_at sections 0) (section_at sections 1)

abbrev pub bundle_task : Bundle → Result Task InputFault
bundle_task bundle = asked_by bundle.command bundle.sections

-- what the lines of a bundle ask for
abbrev pub task_in_lines : List Line → Result Task InputFault
task_in_lines lines = faulted faults.Bundle (bundle_of lines) >>= λ bundle. bundle_task bundle

-- what the text of a bundle asks for
abbrev pub task_in : List ℕ → Result Task InputFault
task_in text = task_in_lines (lines text)

-- the reply to each task
abbrev pub IsReplyOf : Task → Reply → Type 0
IsReplyOf (Frame exchange) reply = IsFrameReply exchange.message exchange.answer reply
IsReplyOf (Run scenario) reply = IsRunReply Lines scenario reply
IsReplyOf (Wave scenario) reply = IsRunReply Levels scenario reply
IsReplyOf (Check trial) reply = IsCheckReply trial reply
IsReplyOf (Find sequence) reply = IsFindReply sequence reply
IsReplyOf (Verify sequence) reply = IsVerifyReply sequence reply
IsReplyOf (Play sequence seed) reply = IsPlayReply sequence reply
IsReplyOf (Refute sequence) reply = IsRefuteReply sequence reply
IsReplyOf (Draft planned) reply = IsDraftReply planned reply
