-- The reply that tells an outcome is one to what was read.
use Rattle.std.proofs.Common.{◌≡◌, Result, Ok, Err, sym, subst, refl, inl, inr, ℕ, String}
use Rattle.std.proofs.Common.{Option, Some, None, string_bytes}
use Rattle.std.proofs.Common.{Global}
use Rattle.simulator.specs.declared.fault.RunFault.{RunFault}
use Rattle.session.specs.declared.fault.InputFault.{InputFault}
use Rattle.session.specs.declared.fault.InputFault.TheVariants as faults
use Rattle.session.specs.declared.outcome.Checked.{Checked}
use Rattle.session.specs.declared.outcome.Drafted.{Drafted}
use Rattle.session.specs.declared.outcome.Framed.{Framed}
use Rattle.session.specs.declared.outcome.Judged.{Judged}
use Rattle.session.specs.declared.outcome.Ran.{Ran}
use Rattle.session.specs.declared.outcome.Searched.{Searched}
use Rattle.session.specs.declared.outcome.Verified.{Verified}
use Rattle.session.specs.declared.outcome.Played.{Played}
use Rattle.session.specs.declared.outcome.Refutation.{Refutation}
use Rattle.session.specs.declared.outcome.Refuted.{Refuted}
use Rattle.session.specs.declared.outcome.Outcome.{Outcome}
use Rattle.session.specs.declared.outcome.Outcome.TheVariants as outcomes
use Rattle.session.specs.declared.report.Telling.{Telling}
use Rattle.session.specs.declared.report.Telling.TheVariants.{Lines, Levels}
use Rattle.session.specs.declared.scenario.Scenario.{Scenario}
use Rattle.session.specs.declared.sequence.Sequence.{Sequence}
use Rattle.session.specs.CheckReplies.{IsCheckReply}
use Rattle.session.specs.Commands.{Task, Frame, Check, Verify, Play, Refute, Draft, IsReplyOf}
use Rattle.session.specs.Commands.{told_task}
use Rattle.session.specs.DraftReplies.{IsDrafted, IsDraftReply, drafted_reply}
use Rattle.session.specs.Planned.{Planned, planned_view}
use Rattle.session.specs.declared.draft_fault.DraftFault.{DraftFault}
use Rattle.session.specs.Outcomes.{IsOutcomeOf, IsTold, IsChecked, IsVerified}
use Rattle.session.specs.Outcomes.{IsRefuted as IsRefutedTold, refuted_reply, text_reply}
use Rattle.session.specs.PlayReplies.{IsRefuteReply}
use Rattle.session.specs.Outcomes.{told_reply, checked_reply, verified_reply}
use Rattle.session.specs.Replies.{Reply, refusal}
use Rattle.session.specs.RunReplies.{IsRunReply}
use Rattle.session.specs.SearchReplies.{IsFindReply, IsVerifyReply}
use Rattle.session.specs.Sessions.{IsReplyAfter}
use Rattle.session.specs.Trials.{Trial, trial_view}
use Rattle.session.specs.Unreads.{fault_of}
use Rattle.session.specs.declared.unread.Unread.{Unread}
use Rattle.table_check.specs.Tables.{table_view}
use Rattle.table_check.specs.checker.Breaches.{verdict_of}

told : (telling : Telling) (s : Scenario) (r : Result (String Global) RunFault)
    → IsTold telling s r → IsRunReply telling s (told_reply faults.Run r)
told telling s (Ok text) is = inl (record {
  trace = is.trace;
  is_run = is.is_run;
  status = refl;
  text = is.prints;
})
told telling s (Err fault) is = inr (record { fault = fault; is_fault = is; refused = refl })

told_as : (telling : Telling) (s : Scenario) (reply : Reply) → IsRunReply telling s reply
    → IsReplyOf (told_task telling s) reply
told_as Lines s reply is = is
told_as Levels s reply is = is

checked : (t : Trial) (r : Result Judged ℕ) → IsChecked t r → IsCheckReply t (checked_reply r)
checked t (Ok judged) is = inl (record {
  table = table_view judged.table;
  text = is.text;
  verdict = verdict_of judged.judgement;
  judged = is.verdict.judgement.0;
  safe = is.verdict.safe;
  replies = refl;
})
checked t (Err line) bad = inr (record { line = line; bad = bad; replies = refl })

verified : (s : Sequence) (r : Result Judged ℕ) → IsVerified s r
    → IsVerifyReply s (verified_reply r)
verified s (Ok judged) is = inl (record {
  table = table_view judged.table;
  found = is.found;
  verdict = verdict_of judged.judgement;
  judged = is.verdict.judgement.0;
  safe = is.verdict.safe;
  replies = refl;
})
verified s (Err place) back = inr (record { place = place; back = back; replies = refl })

at : (read : Result Task InputFault) (task : Task) (reply : Reply) → read ≡ Ok task
    → IsReplyOf task reply → IsReplyAfter read reply
at read task reply is replies = subst (λ r. IsReplyAfter r reply) (sym is) replies

-- a reply is one to what was read of the outcome
abbrev pub Tells : Outcome → Reply → Type 0
Tells o reply = (read : Result Task InputFault) → IsOutcomeOf read o → IsReplyAfter read reply

pub unread_told : (x : Unread) (reply : Reply) → reply ≡ refusal (fault_of x)
    → Tells (outcomes.Unread x) reply
unread_told x reply is read same = subst (λ r. IsReplyAfter r reply) (sym same) is

pub framed_told : (x : Framed) (reply : Reply) → reply ≡ told_reply faults.Frame x.told
    → Tells (outcomes.Framed x) reply
framed_told x reply is read o =
    at read _ reply o.0 (subst (λ r. IsReplyOf (Frame x.exchange) r) (sym is) o.1)

pub ran_told : (x : Ran) (reply : Reply) → reply ≡ told_reply faults.Run x.told
    → Tells (outcomes.Ran x) reply
ran_told x reply is read o =
    at read _ reply o.0 (subst (λ r. IsReplyOf (told_task x.telling x.scenario) r) (sym is)
    (told_as x.telling x.scenario _ (told x.telling x.scenario x.told o.2)))

pub checked_told : (x : Checked) (reply : Reply) → reply ≡ checked_reply x.judged
    → Tells (outcomes.Checked x) reply
checked_told x reply is read o =
    at read _ reply o.0 (subst (λ r. IsReplyOf (Check (trial_view x.trial)) r) (sym is)
    (checked (trial_view x.trial) x.judged o.1))

pub searched_told : (x : Searched) (reply : Reply) → IsFindReply x.sequence reply
    → Tells (outcomes.Searched x) reply
searched_told x reply is read o = at read _ reply o.0 is

pub verified_told : (x : Verified) (reply : Reply) → reply ≡ verified_reply x.judged
    → Tells (outcomes.Verified x) reply
verified_told x reply is read o =
    at read _ reply o.0 (subst (λ r. IsReplyOf (Verify x.sequence) r) (sym is)
    (verified x.sequence x.judged o.1))

pub played_told : (x : Played) (reply : Reply) → reply ≡ text_reply (string_bytes x.text)
    → Tells (outcomes.Played x) reply
played_told x reply is read o =
    at read _ reply o.0 (subst (λ r. IsReplyOf (Play x.sequence x.seed) r) (sym is)
    (record { says = o.1; status = refl }))

refuted : (s : Sequence) (found : Option Refutation) → IsRefutedTold s found
    → IsRefuteReply s (refuted_reply found)
refuted s (Some x) is = inl (record {
  breach = x.breach;
  says = is.says;
  harms = is.harms;
  status = refl;
})
refuted s None is = inr refl

pub refuted_told : (x : Refuted) (reply : Reply) → reply ≡ refuted_reply x.found
    → Tells (outcomes.Refuted x) reply
refuted_told x reply is read o =
    at read _ reply o.0 (subst (λ r. IsReplyOf (Refute x.sequence) r) (sym is)
    (refuted x.sequence x.found o.1))

drafted : (p : Planned) (r : Result (String Global) DraftFault) → IsDrafted p r
    → IsDraftReply p (drafted_reply p.board r)
drafted p (Ok text) is = inl (record { says = is; status = refl })
drafted p (Err fault) is = inr (record { fault = fault; why = is; replies = refl })

pub drafted_told : (x : Drafted) (reply : Reply) → reply ≡ drafted_reply x.planned.board x.told
    → Tells (outcomes.Drafted x) reply
drafted_told x reply is read o =
    let p = planned_view x.planned in
    at read _ reply o.0 (subst (λ r. IsReplyOf (Draft p) r) (sym is) (drafted p x.told o.1))
