use Rattle.std.proofs.lemmas.Option.{IfSome_then}
use Rattle.session.specs.declared.reply.Status.TheVariants.{DeviceFault}
use Rattle.session.specs.Promises.{IsKeptPromise, GivesUpOnLoopsAlone}
use Rattle.session.specs.Replies.{reply_view}
use Rattle.session.specs.Sessions.{IsReplyTo, IsAnswered}
use Rattle.session.proofs.Served.{of_input, cut_short, never_else, same_status}
use Rattle.session.proofs.answering.serve.Goals as goal

pub returns-clause-answered : goal.returns-clause-answered
returns-clause-answered g c =
    let reply = reply_view c.in_ok-reply.reply in
    of_input c.deliver.result _ (λ input. IsReplyTo input reply)
    (λ input status. IsAnswered input _ _ status) c.deliver.ensures.answered
    (IfSome_then (g.R.Read.remaining c.args.reader.now) c.in_ok-input.ensures.kept
    (λ input front. c.in_ok-reply.ensures.replies input
    (c.in_ok-case.ensures.is_case input front)))

pub returns-clause-accepted : goal.returns-clause-accepted
returns-clause-accepted g c =
    let reply = reply_view c.in_ok-reply.reply in
    of_input c.deliver.result _ (λ input. IsReplyTo input reply)
    (λ input status. IsKeptPromise input _ _ status) c.deliver.ensures.accepted
    (IfSome_then (g.R.Read.remaining c.args.reader.now) c.in_ok-input.ensures.kept
    (λ input front. c.in_ok-reply.ensures.replies input
    (c.in_ok-case.ensures.is_case input front)))

pub returns-clause-gave_up : goal.returns-clause-gave_up
returns-clause-gave_up g c =
    let reply = reply_view c.in_ok-reply.reply in
    of_input c.deliver.result _ (λ input. IsReplyTo input reply)
    (λ input _. GivesUpOnLoopsAlone input _ _) c.deliver.ensures.gave_up
    (IfSome_then (g.R.Read.remaining c.args.reader.now) c.in_ok-input.ensures.kept
    (λ input front. c.in_ok-reply.ensures.replies input
    (c.in_ok-case.ensures.is_case input front)))

pub returns-clause-whole : goal.returns-clause-whole
returns-clause-whole g c =
    same_status c.deliver.result c.in_ok-reply.reply.status DeviceFault
    c.deliver.ensures.status c.in_ok-reply.ensures.whole

pub returns-clause-begun : goal.returns-clause-begun
returns-clause-begun g c =
    let all = c.in_ok-input.ensures.all in
    cut_short c.deliver.result _ _ _ _ (reply_view c.in_ok-reply.reply) c.deliver.ensures.begun
    (record {
      input = all.all;
      read = all.read;
      replies = c.in_ok-reply.ensures.replies all.all
          (c.in_ok-case.ensures.is_case all.all all.front);
    })

pub returns-clause-silent : goal.returns-clause-silent
returns-clause-silent g c = never_else c.deliver.result _ c.deliver.ensures.err
