use Rattle.session.proofs.replying.ran_reply.Goals as goal

pub returns-clause-replies : goal.returns-clause-replies
returns-clause-replies c = rw c.in-Err.is c.refused.ensures.replies
