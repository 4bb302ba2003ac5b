use Rattle.std.proofs.lemmas.Result.{IfOk-weaker}
use Rattle.session.specs.declared.outcome.Outcome.TheVariants as outcomes
use Rattle.session.specs.Replies.{reply_view}
use Rattle.session.proofs.Replied.{Tells, ran_told, checked_told, verified_told, refuted_told}
use Rattle.session.proofs.Replied.{drafted_told}
use Rattle.session.proofs.replying.outcome_reply.Goals as goal

pub returns-in-Ran-clause-replies : goal.returns-in-Ran-clause-replies
returns-in-Ran-clause-replies c =
    rw c.in-Ran.is
    (IfOk-weaker c.ran_reply.result _
    (λ reply. Tells (outcomes.Ran c.in-Ran.ran) (reply_view reply))
    (λ reply is. ran_told c.in-Ran.ran (reply_view reply) is) c.ran_reply.ensures.replies)

pub returns-in-Checked-clause-replies : goal.returns-in-Checked-clause-replies
returns-in-Checked-clause-replies c =
    rw c.in-Checked.is
    (IfOk-weaker c.checked_reply.result _
    (λ reply. Tells (outcomes.Checked c.in-Checked.checked) (reply_view reply))
    (λ reply is. checked_told c.in-Checked.checked (reply_view reply) is)
    c.checked_reply.ensures.replies)

pub returns-in-Verified-clause-replies : goal.returns-in-Verified-clause-replies
returns-in-Verified-clause-replies c =
    rw c.in-Verified.is
    (IfOk-weaker c.verified_reply.result _
    (λ reply. Tells (outcomes.Verified c.in-Verified.verified) (reply_view reply))
    (λ reply is. verified_told c.in-Verified.verified (reply_view reply) is)
    c.verified_reply.ensures.replies)

pub returns-in-Refuted-clause-replies : goal.returns-in-Refuted-clause-replies
returns-in-Refuted-clause-replies c =
    rw c.in-Refuted.is
    (IfOk-weaker c.refuted_reply.result _
    (λ reply. Tells (outcomes.Refuted c.in-Refuted.refuted) (reply_view reply))
    (λ reply is. refuted_told c.in-Refuted.refuted (reply_view reply) is)
    c.refuted_reply.ensures.replies)

pub returns-in-Drafted-clause-replies : goal.returns-in-Drafted-clause-replies
returns-in-Drafted-clause-replies c =
    rw c.in-Drafted.is
    (IfOk-weaker c.drafted_reply.result _
    (λ reply. Tells (outcomes.Drafted c.in-Drafted.drafted) (reply_view reply))
    (λ reply is. drafted_told c.in-Drafted.drafted (reply_view reply) is)
    c.drafted_reply.ensures.replies)
