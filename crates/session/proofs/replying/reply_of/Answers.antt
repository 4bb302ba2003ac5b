use Rattle.std.proofs.Common.{List, ℕ}
use Rattle.std.proofs.lemmas.Result.{IfOk-weaker}
use Rattle.session.specs.Cases.{IsCaseIn}
use Rattle.session.specs.Replies.{reply_view}
use Rattle.session.specs.Sessions.{IsReplyTo}
use Rattle.session.proofs.Fronts.{replies_in}
use Rattle.session.proofs.replying.reply_of.Goals as goal

pub returns-clause-replies : goal.returns-clause-replies
returns-clause-replies c =
    IfOk-weaker c.outcome_reply.result _
    (λ reply. (input : List ℕ) → IsCaseIn input c.args.case → IsReplyTo input (reply_view reply))
    (λ reply tells input is. replies_in input c.args.case (reply_view reply) tells is)
    c.outcome_reply.ensures.replies
