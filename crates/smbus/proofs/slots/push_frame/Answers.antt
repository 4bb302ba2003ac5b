use Rattle.std.proofs.Common.{◌∙◌, sym, ap, arith}
use Rattle.std.proofs.lemmas.Result.{on_ok_weaker}
use Rattle.smbus.proofs.PartsOfFrames.{refused_ends, rest_ends, after_along}
use Rattle.smbus.proofs.slots.push_frame.Goals as goal

pub returns-in-Some : goal.returns-in-Some
returns-in-Some c =
    on_ok_weaker c.push_refused.result (refused_ends c.args.message.now c.args.answer.now
    c.deref.result.now c.in-Some.number c.args.slots.now.items c.push_refused.new.slots.items
    (c.deref.ensures.value ∙ c.in_ok-first.ensures) (sym (ap (λ a. a.refuse) c.answer.view_is)
    ∙ c.in-Some.ensures.among.0) (omega (arith, c.in-Some.ensures.among.1))) c.push_refused.ensures

pub returns : goal.returns
returns c =
    on_ok_weaker c.push_rest.result
    (rest_ends c.args.message.now c.args.answer.now c.deref-in-None.result.now
    c.args.slots.now.items c.push_sent.new.slots.items c.push_rest.new.slots.items
    c.requires.numbered (c.deref-in-None.ensures.value ∙ c.in_ok-first.ensures)
    (after_along c.answer.inside.refuse c.args.answer.now.refuse c.len.result _
    c.in-None.ensures.after (ap (λ a. a.refuse) c.answer.view_is) (omega arith))
    c.in_ok-push_sent-in-None.ensures) c.push_rest.ensures
