-- What became of an input, and the reply that tells it.
use Rattle.std.specs.Prelude.{◌≡◌, ℕ, List, Option, Some, None, Result, Ok, Err, IfSome}
use Rattle.std.specs.Prelude.{MatchResult}
use Rattle.std.specs.Prelude.{String}
use Rattle.std.specs.Prelude.{string_bytes}
use Rattle.std.specs.Global.{Global}
use Rattle.board.specs.Boards.{Board}
use Rattle.seq_program.specs.declared.instr.Instr.{Instr}
use Rattle.simulator.specs.declared.fault.RunFault.{RunFault}
use Rattle.simulator.specs.Machines.{start_at, start_state}
use Rattle.simulator.specs.Steps.{IsRun}
use Rattle.simulator.specs.Traces.{Trace}
use Rattle.smbus.specs.declared.fault.SmbusFault.{SmbusFault}
use Rattle.texts.specs.Words.{lines_by_feed}
use Rattle.bundles.specs.declared.message.Exchange.{Exchange}
use Rattle.table_check.specs.Tables.{table_view}
use Rattle.table_check.specs.declared.table.Table.{Table as TableCode}
use Rattle.table_check.specs.text.Texts.{IsFirstBadLine, IsTextOf}
use Rattle.table_check.specs.declared.text.fault.TableFault.TheVariants.{BadLine}
use Rattle.table_check.specs.checker.Breaches.{IsJudgement, verdict_of}
use Rattle.table_check.specs.checker.SafeTables.{IsSafeVerdict}
use Rattle.fact_search.specs.Forward.{IsForward}
use Rattle.session.specs.declared.fault.InputFault.{InputFault as Fault}
use Rattle.session.specs.declared.fault.InputFault.TheVariants as faults
use Rattle.session.specs.declared.outcome.Judged.{Judged}
use Rattle.session.specs.declared.outcome.Refutation.{Refutation}
use Rattle.session.specs.declared.outcome.Outcome.{Outcome}
use Rattle.session.specs.declared.outcome.Outcome.TheVariants as outcomes
use Rattle.session.specs.declared.reply.Status.{Status}
use Rattle.session.specs.declared.reply.Status.TheVariants.{Accepted, Refused, InputFault}
use Rattle.session.specs.declared.report.Telling.{Telling}
use Rattle.session.specs.declared.scenario.Scenario.{Scenario}
use Rattle.session.specs.declared.sequence.Sequence.{Sequence}
use Rattle.breach_search.specs.declared.harm.Shown.{Shown}
use Rattle.breach_search.specs.Harms.{IsHarm}
use Rattle.breach_search.specs.declared.harm.Harm.{Harm}
use Rattle.session.specs.Breaches.{IsFoundIn}
use Rattle.session.specs.CheckReplies.{verdict_reply, verdict_status}
use Rattle.session.specs.Commands.{Task, Frame, Check, Find, Verify, Play, Refute, Draft}
use Rattle.session.specs.Commands.{told_task}
use Rattle.session.specs.DraftReplies.{IsDrafted}
use Rattle.session.specs.Planned.{planned_view}
use Rattle.session.specs.FrameReplies.{IsFrameReply}
use Rattle.session.specs.PlayReplies.{HasNoTable, SaysBreach, SaysRun, no_run_reply}
use Rattle.session.specs.Replies.{Reply, refusal}
use Rattle.session.specs.RunReplies.{IsRunText}
use Rattle.session.specs.Scenarios.{IsFaultOf, IsOnItsBoard}
use Rattle.session.specs.SearchReplies.{MayBeFound, gave_up_reply}
use Rattle.session.specs.Stops.{IsStopped}
use Rattle.session.specs.Trials.{Trial, trial_view}
use Rattle.session.specs.Unreads.{fault_of, Fails}
use Rattle.session.specs.declared.unread.Unread.{Unread}
use Rattle.texts.specs.declared.reading.ReadError.{ReadError}

-- ---- the reply

abbrev pub text_reply : List ℕ → Reply
text_reply text = record { status = Accepted; text = text }

-- lines that are told, or a fault
abbrev pub told_reply : {E : Type 0} → (E → Fault) → Result (String Global) E → Reply
told_reply as_input (Ok text) = text_reply (string_bytes text)
told_reply as_input (Err fault) = refusal (as_input fault)

abbrev pub checked_reply : Result Judged ℕ → Reply
checked_reply (Ok judged) = verdict_reply (verdict_of judged.judgement)
checked_reply (Err line) = refusal (faults.Table (BadLine line))

abbrev pub verified_reply : Result Judged ℕ → Reply
verified_reply (Ok judged) = verdict_reply (verdict_of judged.judgement)
verified_reply (Err place) = gave_up_reply place

abbrev pub refuted_reply : Option Refutation → Reply
refuted_reply (Some refutation) = text_reply (string_bytes refutation.text)
refuted_reply None = no_run_reply

-- ---- the status

abbrev pub told_status : {T E : Type 0} → Result T E → Status
told_status (Ok text) = Accepted
told_status (Err fault) = InputFault

abbrev pub checked_status : Result Judged ℕ → Status
checked_status (Ok judged) = verdict_status (verdict_of judged.judgement)
checked_status (Err line) = InputFault

abbrev pub searched_status : Result TableCode ℕ → Status
searched_status (Ok table) = Accepted
searched_status (Err place) = Refused

abbrev pub verified_status : Result Judged ℕ → Status
verified_status (Ok judged) = verdict_status (verdict_of judged.judgement)
verified_status (Err place) = Refused

abbrev pub refuted_status : Option Refutation → Status
refuted_status (Some refutation) = Accepted
refuted_status None = Refused

abbrev pub status_of : Outcome → Status
status_of (outcomes.Unread x) = InputFault
status_of (outcomes.Framed x) = told_status x.told
status_of (outcomes.Ran x) = told_status x.told
status_of (outcomes.Checked x) = checked_status x.judged
status_of (outcomes.Searched x) = searched_status x.found
status_of (outcomes.Verified x) = verified_status x.judged
status_of (outcomes.Played x) = Accepted
status_of (outcomes.Refuted x) = refuted_status x.found
status_of (outcomes.Drafted x) = told_status x.told

-- ---- what was found is true

-- the frame's lines, or why there are none
abbrev pub IsFramed : Exchange → Result (String Global) SmbusFault → Type 0
IsFramed exchange told =
    IsFrameReply exchange.message exchange.answer (told_reply faults.Frame told)

-- what is told of a run is its trace or its levels, and a fault is the run's
abbrev pub IsTold : Telling → Scenario → Result (String Global) RunFault → Type 0
IsTold telling s told =
    MatchResult told (λ text. IsRunText telling s (string_bytes text)) (IsFaultOf s)

-- the judgement is the checker's; where it accepts, every run is safe
pub record IsJudged (b : Board) (p : List Instr) (judged : Judged) : Type 0 where
  pub judgement : IsJudgement b p (table_view judged.table) judged.judgement
  pub safe : IsSafeVerdict b p (verdict_of judged.judgement)

-- it is the verdict on the table that a text holds
pub record IsReadAndJudged (trial : Trial) (judged : Judged) : Type 0 where
  pub text : IsTextOf trial.board (table_view judged.table) trial.table
  pub verdict : IsJudged trial.board trial.program judged

abbrev pub IsChecked : Trial → Result Judged ℕ → Type 0
IsChecked trial judged =
    MatchResult judged (IsReadAndJudged trial)
    (IsFirstBadLine trial.board (lines_by_feed trial.table))

-- the search gives up where some jump leads back, if at all
abbrev pub MayGiveUp : List Instr → Type 0
MayGiveUp p = IsForward p → ⊥

abbrev pub IsSearched : Sequence → Result TableCode ℕ → Type 0
IsSearched s found =
    MatchResult found (λ table. MayBeFound s (table_view table)) (λ place. MayGiveUp s.program)

-- it is the verdict on a table that may be found
pub record IsFoundAndJudged (s : Sequence) (judged : Judged) : Type 0 where
  pub found : MayBeFound s (table_view judged.table)
  pub verdict : IsJudged s.board s.program judged

abbrev pub IsVerified : Sequence → Result Judged ℕ → Type 0
IsVerified s judged =
    MatchResult judged (IsFoundAndJudged s) (λ place. MayGiveUp s.program)

-- the trace is that of the run that breaks a rule
abbrev pub IsRunOfHarm : Board → List Instr → Harm → Trace → Type 0
IsRunOfHarm b p x trace =
    IsRun b p (start_at (start_state x.pages.items x.protects.items)) x.answers.items
    trace.entries trace.last

-- a run breaks a rule with its last instruction, and these are its steps
pub record IsShown (b : Board) (p : List Instr) (x : Shown) : Type 0 where
  pub harm : IsHarm b p x.harm
  pub run : IsRunOfHarm b p x.harm x.trace

-- the run breaks the rule that is told
pub record IsRefutation (s : Sequence) (x : Refutation) : Type 0 where
  pub says : SaysBreach s x.breach (string_bytes x.text)
  pub harms : HasNoTable s

abbrev pub IsRefuted : Sequence → Option Refutation → Type 0
IsRefuted s found = IfSome found (IsRefutation s)

-- what was read of an input is what it asks for, and what was found of that is true
abbrev pub IsOutcomeOf : Result Task Fault → Outcome → Type 0
IsOutcomeOf read (outcomes.Unread x) = read ≡ Err (fault_of x)
IsOutcomeOf read (outcomes.Framed x) = (read ≡ Ok (Frame x.exchange)) × IsFramed x.exchange x.told
IsOutcomeOf read (outcomes.Ran x) =
    (read ≡ Ok (told_task x.telling x.scenario)) × IsOnItsBoard x.scenario
    × IsTold x.telling x.scenario x.told × IsStopped x.scenario x.told x.stop
    × IsFoundIn x.scenario x.found
IsOutcomeOf read (outcomes.Checked x) =
    (read ≡ Ok (Check (trial_view x.trial))) × IsChecked (trial_view x.trial) x.judged
IsOutcomeOf read (outcomes.Searched x) =
    (read ≡ Ok (Find x.sequence)) × IsSearched x.sequence x.found
IsOutcomeOf read (outcomes.Verified x) =
    (read ≡ Ok (Verify x.sequence)) × IsVerified x.sequence x.judged
    × IfSome x.shown (IsShown x.sequence.board x.sequence.program)
IsOutcomeOf read (outcomes.Played x) =
    (read ≡ Ok (Play x.sequence x.seed)) × SaysRun x.sequence (string_bytes x.text)
IsOutcomeOf read (outcomes.Refuted x) =
    (read ≡ Ok (Refute x.sequence)) × IsRefuted x.sequence x.found
IsOutcomeOf read (outcomes.Drafted x) =
    (read ≡ Ok (Draft (planned_view x.planned))) × IsDrafted (planned_view x.planned) x.told

-- and it is true of some input
abbrev pub IsTrue : Outcome → Type 0
IsTrue outcome = (read : Result Task Fault) × IsOutcomeOf read outcome

-- what was done of an input, or why not, unless memory ran out
abbrev pub Becomes : Result Outcome (ReadError Unread) → Result Task Fault → Type 0
Becomes (Ok outcome) read = IsOutcomeOf read outcome
Becomes (Err e) read = Fails e read
