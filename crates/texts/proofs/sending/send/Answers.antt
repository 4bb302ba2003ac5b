use Rattle.std.proofs.lemmas.List.{take_rest}
use Rattle.texts.proofs.Sent.{sent_more}
use Rattle.texts.proofs.sending.send.Goals as goal

pub loop-rest-preserved : goal.loop-rest-preserved
loop-rest-preserved g c =
    rw (take_rest c.loop-rest.rest.now c.in-Ok.count) (sent_more _ _ _ c.args.text.now
    c.loop-rest.rest.now c.in-Ok.count c.loop-rest.invariant c.in-Ok.ensures.bytes)
