use Rattle.std.proofs.Common.{◌∙◌, ap, true, arith, string_bytes}
use Rattle.std.proofs.lemmas.Bool.{false≢true}
use Rattle.std.proofs.lemmas.Result.{IfOk-weaker}
use Rattle.bit_bus.specs.Levels.{levels, first_cut}
use Rattle.bit_bus.specs.Word.{event_word}
use Rattle.smbus.specs.Answered.{Answered}
use Rattle.session.proofs.ShownFrames.{frame_shown, only_frame, planned_so}
use Rattle.session.proofs.frame.shown.Goals as goal

pub unreachable-requires : goal.unreachable-requires
unreachable-requires c =
    let message = c.args.message.now in
    let answer = c.args.answer.now in
    let plan =
    planned_so message answer c.args.slots.items c.answer.inside.holds.items
    c.in_ok-clone.field-0.items c.requires.slots c.in_ok-clone.ensures.cases.0
    (ap (λ (a : Answered). a.holds) c.answer.view_is) in
    let sole = c.slots_are_one_frame.ensures.one message answer c.requires.sendable in
    false≢true (c.in_default.ensures.valid.1 (rw plan sole.plan))

pub seen_text-requires : goal.seen_text-requires
seen_text-requires c =
    let message = c.args.message.now in
    let answer = c.args.answer.now in
    let plan =
    planned_so message answer c.args.slots.items c.answer.inside.holds.items
    c.in_ok-clone.field-0.items c.requires.slots c.in_ok-clone.ensures.cases.0
    (ap (λ (a : Answered). a.holds) c.answer.view_is) in
    record {
      few = omega (arith, c.in_ok-driven.ensures.few);
      one = only_frame c.slots_are_one_frame.ensures.one message answer
          c.in_ok-driven.driven.samples c.requires.sendable (c.in_ok-driven.ensures.word true
          ∙ ap event_word (c.in-Some.ensures.plan ∙ plan));
    }

pub returns : goal.returns
returns c =
    let message = c.args.message.now in
    let answer = c.args.answer.now in
    let driven = c.in_ok-driven.driven in
    let plan =
    planned_so message answer c.args.slots.items c.answer.inside.holds.items
    c.in_ok-clone.field-0.items c.requires.slots c.in_ok-clone.ensures.cases.0
    (ap (λ (a : Answered). a.holds) c.answer.view_is) in
    let is = c.in-Some.ensures.plan ∙ plan in
    IfOk-weaker c.format.result _ _
    (λ text prints.
    frame_shown message answer driven.samples driven.cut (string_bytes c.in_ok-frame.frame)
    (string_bytes c.in_ok-outcome.outcome) (string_bytes text) c.total-count.result prints
    c.in_ok-frame.ensures c.total-count.ensures.total c.in_ok-outcome.ensures
    (c.in_ok-driven.ensures.samples ∙ ap (levels true) is)
    (c.in_ok-driven.ensures.cut ∙ ap first_cut is))
    c.format.ensures.ok
