use Rattle.std.proofs.Common.{◌≡◌, ◌<◌, ◌^◌, ◌∙◌, ap, length}
use Rattle.smbus.specs.Answered.{Answered}
use Rattle.smbus.specs.Slots.{slots_of}
use Rattle.targets.proofs.Cuts.{cut_in_plan}
use Rattle.targets.proofs.outcome.cut_of.Goals as goal

pub returns : goal.returns
returns c =
    let same : c.deref.result.now ≡ c.args.answer.now.holds =
    c.deref.ensures.value ∙ ap (λ (a : Answered). a.holds) c.answer.view_is in
    let few : length c.args.answer.now.holds < 2 ^ 64 = rw (← same) c.first_cut_of.ensures.few in
    c.first_cut_of.ensures.first
    ∙ rw (same, c.slot_count.ensures)
    (cut_in_plan (slots_of c.args.message.now c.args.answer.now) c.args.answer.now.holds few)
