-- The reply to a plan: a program that is accepted, as a text, or why there is none.
use Rattle.std.specs.Prelude.{◌≡◌, ◌⊎◌, ◌++◌, ℕ, List, Result, Ok, Err, MatchResult, String}
use Rattle.std.specs.Prelude.{codes, string_bytes}
use Rattle.std.specs.Fmt.{decimal}
use Rattle.std.specs.Global.{Global}
use Rattle.texts.specs.Words.{lines_by_feed}
use Rattle.texts.specs.declared.reading.ReadError.{ReadError}
use Rattle.texts.specs.declared.reading.ReadError.TheVariants as errors
use Rattle.board.specs.Boards.{Board}
use Rattle.seq_program.specs.declared.instr.Instr.{Instr}
use Rattle.seq_program.specs.Programs.{program_of}
use Rattle.plans.specs.declared.wish.Wish.{Wish}
use Rattle.plans.specs.Plans.{IsPlanOf, IsFirstBad}
use Rattle.drafts.specs.declared.fault.Undraftable.{Undraftable}
use Rattle.drafts.specs.declared.fault.Undraftable.TheVariants as why
use Rattle.drafts.specs.declared.part.Draft.{Draft}
use Rattle.drafts.specs.Drafts.{IsDraft as IsDraftOf}
use Rattle.drafts.specs.Faults.{IsFault}
use Rattle.table_check.specs.Tables.{Table}
use Rattle.table_check.specs.checker.Obligations.{IsVerdict}
use Rattle.table_check.specs.checker.SafeTables.{IsSafeVerdict}
use Rattle.table_check.specs.declared.checker.verdict.Verdict.{Verdict}
use Rattle.table_check.specs.declared.checker.verdict.Verdict.TheVariants as verdicts
use Rattle.session.specs.declared.draft_fault.DraftFault.{DraftFault}
use Rattle.session.specs.declared.draft_fault.DraftFault.TheVariants as faults
use Rattle.session.specs.declared.reply.Status.TheVariants.{Accepted, InputFault}
use Rattle.session.specs.DraftFaults.{draft_fault_text}
use Rattle.session.specs.Planned.{Planned}
use Rattle.session.specs.Replies.{Reply}

-- the first line of a draft begins with its bound
pub record TellsBound (bound : ℕ) (text : List ℕ) : Type 0 where
  pub rest : List ℕ
  pub tells : text ≡ codes "# accepted bound " ++ (decimal bound ++ (codes " ticks, " ++ rest))

-- the text is that of a program, and this is the checker's verdict on it with some table; where it
-- accepts, every run is safe within its bound
pub record IsVerdictOn (b : Board) (text : List ℕ) (verdict : Verdict) : Type 0 where
  pub program : List Instr
  pub reads : program_of b text ≡ Ok program
  pub table : Table
  pub judged : IsVerdict b program table verdict
  pub safe : IsSafeVerdict b program verdict

-- it is accepted, with the bound that its first line tells
pub record SaysDraft (b : Board) (text : List ℕ) : Type 0 where
  pub bound : ℕ
  pub tells : TellsBound bound text
  pub accepted : IsVerdictOn b text (verdicts.Accepted bound)

-- what can't be drafted is told of the plan's wishes
pub record IsUndraftable (p : Planned) (x : Undraftable) : Type 0 where
  pub wishes : List Wish
  pub plan : IsPlanOf p.board (lines_by_feed p.plan) wishes
  pub fault : IsFault p.board wishes (errors.Fault x)

-- the plan's lines are wishes, and there is a draft of these
pub record IsDraftable (p : Planned) : Type 0 where
  pub wishes : List Wish
  pub plan : IsPlanOf p.board (lines_by_feed p.plan) wishes
  pub draft : Draft
  pub drafted : IsDraftOf p.board wishes draft

-- the first fault; where a draft is no program or isn't accepted, that there is one
abbrev pub IsDraftFault : Planned → DraftFault → Type 0
IsDraftFault p (faults.BadPlan fault) = IsFirstBad p.board (lines_by_feed p.plan) fault
IsDraftFault p (faults.Circle rail) = IsUndraftable p (why.Circle rail)
IsDraftFault p (faults.NoEntry target form code) =
    IsUndraftable p (why.NoEntry target form code)
IsDraftFault p (faults.OverLimit rail) = IsUndraftable p (why.OverLimit rail)
IsDraftFault p faults.TooLong = IsDraftable p
IsDraftFault p (faults.NotAccepted place rule) = IsDraftable p

-- an error is the first fault, unless memory ran out
abbrev pub OnDraftFault : Planned → ReadError DraftFault → Type 0
OnDraftFault p errors.Memory = Unit {0}
OnDraftFault p (errors.Fault fault) = IsDraftFault p fault

-- an error that says no more of the plan than that there is a draft of it: memory ran out, or the
-- program that was drafted is none or isn't accepted
abbrev pub SparesPlan : ReadError DraftFault → Type 0
SparesPlan e = (p : Planned) → IsDraftable p → OnDraftFault p e

-- a draft, or why there is none
abbrev pub IsDrafted : Planned → Result (String Global) DraftFault → Type 0
IsDrafted p told =
    MatchResult told (λ text. SaysDraft p.board (string_bytes text)) (IsDraftFault p)

abbrev pub drafted_reply : Board → Result (String Global) DraftFault → Reply
drafted_reply b (Ok text) = record { status = Accepted; text = string_bytes text }
drafted_reply b (Err fault) = record { status = InputFault; text = draft_fault_text b fault }

pub record IsDraft (p : Planned) (reply : Reply) : Type 0 where
  pub says : SaysDraft p.board reply.text
  pub status : reply.status ≡ Accepted

pub record IsNoDraft (p : Planned) (reply : Reply) : Type 0 where
  pub fault : DraftFault
  pub why : IsDraftFault p fault
  pub replies : reply ≡ record { status = InputFault; text = draft_fault_text p.board fault }

abbrev pub IsDraftReply : Planned → Reply → Type 0
IsDraftReply p reply = IsDraft p reply ⊎ IsNoDraft p reply
