use Rattle.std.proofs.Common.{inr}
use Rattle.std.proofs.lemmas.Result.{IfOk-weaker}
use Rattle.session.specs.Outcomes.{MayGiveUp}
use Rattle.session.specs.Replies.{reply_view}
use Rattle.session.specs.SearchReplies.{IsFindReply}
use Rattle.session.proofs.replying.found_reply.Goals as goal

pub returns-in-Err-clause-replies : goal.returns-in-Err-clause-replies
returns-in-Err-clause-replies c =
    let may : MayGiveUp c.args.searched.now.sequence.program = rw c.in-Err.is at c.requires in
    IfOk-weaker c.gave_up_reply.result _
    (λ reply. IsFindReply c.args.searched.now.sequence (reply_view reply))
    (λ reply is. inr (record { place = c.in-Err.place; back = may; replies = is }))
    c.gave_up_reply.ensures.replies
