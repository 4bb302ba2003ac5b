use Rattle.std.proofs.Common.{refl, subst}
use Rattle.std.specs.Io.KnownBytes.{Appends}
use Rattle.session.specs.Replies.{reply_view}
use Rattle.session.proofs.GaveUp.{gives_up}
use Rattle.session.proofs.Promised.{kept}
use Rattle.session.proofs.answering.deliver.Goals as goal

pub returns-in-Ok-clause-accepted : goal.returns-in-Ok-clause-accepted
returns-in-Ok-clause-accepted g c = λ input replies.
    kept input _ _ _ (reply_view c.args.reply.now) replies
    (subst (Appends _ _) c.deref.ensures.value c.in-Ok.ensures.ok) refl

pub returns-in-Ok-clause-gave_up : goal.returns-in-Ok-clause-gave_up
returns-in-Ok-clause-gave_up g c = λ input replies.
    gives_up input _ _ (reply_view c.args.reply.now) replies
    (subst (Appends _ _) c.deref.ensures.value c.in-Ok.ensures.ok)
