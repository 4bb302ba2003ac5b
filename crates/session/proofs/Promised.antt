-- What a reply promises that accepts a program.
use Rattle.std.proofs.Common.{◌≡◌, ℕ, List, sym, ap, subst, ◌∙◌, inl, inr}
use Rattle.std.specs.Prelude.{Option, Result, IfSome}
use Rattle.std.specs.Io.KnownBytes.{Appends}
use Rattle.table_check.specs.declared.checker.verdict.Verdict.{Verdict}
use Rattle.table_check.specs.declared.checker.verdict.Verdict.TheVariants as verdicts
use Rattle.table_check.specs.checker.SafeTables.{IsSafeVerdict}
use Rattle.session.specs.declared.fault.InputFault.{InputFault}
use Rattle.session.specs.declared.reply.Status.{Status}
use Rattle.session.specs.declared.reply.Status.TheVariants as statuses
use Rattle.session.specs.declared.sequence.Sequence.{Sequence}
use Rattle.session.specs.CheckReplies.{IsCheckReply, verdict_reply}
use Rattle.session.specs.Commands.{Task, Frame, Run, Wave, Check, Find, Verify, Play, Refute}
use Rattle.session.specs.Commands.{Draft, IsReplyOf}
use Rattle.session.specs.Promises.{IsKeptPromise, IsPromised, judged_in}
use Rattle.session.specs.Replies.{Reply}
use Rattle.session.specs.SearchReplies.{IsVerifyReply}
use Rattle.session.specs.Sessions.{IsReplyAfter, IsReplyTo}
use Rattle.session.specs.Trials.{Trial}

refused_accepted : statuses.Refused ≡ statuses.Accepted → ⊥
refused_accepted e = cc

fault_accepted : statuses.InputFault ≡ statuses.Accepted → ⊥
fault_accepted e = cc

accepts : (s : Sequence) (old new : Option (List ℕ)) (reply : Reply) (v : Verdict)
    → Appends old new reply.text → reply.status ≡ statuses.Accepted
    → IsSafeVerdict s.board s.program v → reply ≡ verdict_reply v → IsPromised old new s
accepts s old new reply (verdicts.Accepted bound) written ok safe same =
    (bound, subst (Appends old new) (ap (λ (r : Reply). r.text) same) written, safe)
accepts s old new reply (verdicts.Refused place rule) written ok safe same =
    absurd (refused_accepted (sym (ap (λ (r : Reply). r.status) same) ∙ ok))

checked : (trial : Trial) (old new : Option (List ℕ)) (reply : Reply) → Appends old new reply.text
    → reply.status ≡ statuses.Accepted → IsCheckReply trial reply
    → IsPromised old new (record { board = trial.board; program = trial.program })
checked trial old new reply written ok (inl judged) =
    accepts (record { board = trial.board; program = trial.program }) old new reply judged.verdict
    written ok judged.safe judged.replies
checked trial old new reply written ok (inr unread) =
    absurd (fault_accepted (sym (ap (λ (r : Reply). r.status) unread.replies) ∙ ok))

verified : (s : Sequence) (old new : Option (List ℕ)) (reply : Reply) → Appends old new reply.text
    → reply.status ≡ statuses.Accepted → IsVerifyReply s reply → IsPromised old new s
verified s old new reply written ok (inl judged) =
    accepts s old new reply judged.verdict written ok judged.safe judged.replies
verified s old new reply written ok (inr gave) =
    absurd (refused_accepted (sym (ap (λ (r : Reply). r.status) gave.replies) ∙ ok))

promised : (task : Task) (old new : Option (List ℕ)) (reply : Reply) → Appends old new reply.text
    → reply.status ≡ statuses.Accepted → IsReplyOf task reply
    → IfSome (judged_in task) (λ s. IsPromised old new s)
promised (Frame exchange) old new reply written ok replies = tt
promised (Run scenario) old new reply written ok replies = tt
promised (Wave scenario) old new reply written ok replies = tt
promised (Check trial) old new reply written ok replies =
    checked trial old new reply written ok replies
promised (Find sequence) old new reply written ok replies = tt
promised (Verify sequence) old new reply written ok replies =
    verified sequence old new reply written ok replies
promised (Play sequence seed) old new reply written ok replies = tt
promised (Refute sequence) old new reply written ok replies = tt
promised (Draft planned) old new reply written ok replies = tt

pub kept : (input : List ℕ) (old new : Option (List ℕ)) (status : Status) (reply : Reply)
    → IsReplyTo input reply → Appends old new reply.text → status ≡ reply.status
    → IsKeptPromise input old new status
kept input old new status reply replies written same = λ task asks accepted.
    let P : Result Task InputFault → Type 0 = λ r. IsReplyAfter r reply in
    promised task old new reply written (sym same ∙ accepted) (subst P asks replies)
