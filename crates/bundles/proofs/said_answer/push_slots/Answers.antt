use Rattle.std.proofs.Common.{ap, arith, drop, string_bytes}
use Rattle.std.proofs.lemmas.List.{drop_all}
use Rattle.bundles.specs.AnswerLineTexts.{held_texts}
use Rattle.bundles.proofs.WrittenSlots.{all_written}
use Rattle.bundles.proofs.said_answer.push_slots.Goals as goal

pub returns : goal.returns
returns c =
    let l = c.loop-slot in
    let holds = c.args.holds.now in
    let none = drop_all l.slot holds (omega (arith, c.loop-slot-test.false)) in
    all_written (string_bytes l.text) (string_bytes c.args.text.now) l.comma.now
    (held_texts l.slot (drop l.slot holds)) (held_texts 0 holds) (ap (held_texts l.slot) none)
    l.invariant.written
