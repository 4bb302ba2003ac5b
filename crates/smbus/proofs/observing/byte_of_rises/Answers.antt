use Rattle.std.proofs.Common.{◌≡◌, ◌<◌, ◌^◌, arith, sym, ap, length, take, ◌∙◌}
use Rattle.std.proofs.lemmas.List.{take_all, length-map}
use Rattle.wires.specs.declared.event.Event.TheVariants.{Rise}
use Rattle.smbus.specs.Frames.{rises}
use Rattle.smbus.proofs.WholeBytes.{AreRises, bit_few, one_rise_more, rises_below, nine_byte}
use Rattle.smbus.proofs.observing.byte_of_rises.Goals as goal

pub overflow_mul-number : goal.overflow_mul-number
overflow_mul-number c =
    let few : c.loop-event.number < 2 ^ 8 =
    rises_below c.args.nine.now c.loop-event.event-index c.loop-event.number 8
    (omega (arith, c.loop-event-test.true, c.requires)) c.loop-event.invariant in
    omega (arith, few)

pub overflow_add-number : goal.overflow_add-number
overflow_add-number c =
    let few : c.loop-event.number < 2 ^ 8 =
    rises_below c.args.nine.now c.loop-event.event-index c.loop-event.number 8
    (omega (arith, c.loop-event-test.true, c.requires)) c.loop-event.invariant in
    omega (arith, few, c.from.ensures, bit_few c.in-Rise.bit)

pub loop-event-preserved : goal.loop-event-preserved
loop-event-preserved c =
    one_rise_more c.args.nine.now c.loop-event.event-index _ c.in-Rise.bit c.loop-event.number
    c.from.result c.loop-event-test.true c.in-Rise.is c.from.ensures c.loop-event.invariant

pub overflow_cast-result : goal.overflow_cast-result
overflow_cast-result c =
    let all : take c.loop-event.event-index c.args.nine.now ≡ c.args.nine.now =
    take_all _ c.args.nine.now c.loop-event-test.false in
    let nine : take 9 c.args.nine.now ≡ c.args.nine.now =
    take_all 9 c.args.nine.now (omega (arith, c.requires)) in
    let are : AreRises (take 9 c.args.nine.now) c.loop-event.number =
    rw nine (rw all at c.loop-event.invariant) in
    let few : c.loop-event.number < 2 ^ 9 = rises_below c.args.nine.now 9 _ 9 (omega arith) are in
    omega (arith, few)

pub returns : goal.returns
returns c =
    let bits = c.loop-event.invariant.bits in
    let all : take c.loop-event.event-index c.args.nine.now ≡ c.args.nine.now =
    take_all _ c.args.nine.now c.loop-event-test.false in
    let are : c.args.nine.now ≡ rises bits = sym all ∙ c.loop-event.invariant.are in
    let nine : length bits ≡ 9 =
    sym (length-map bits Rise) ∙ sym (ap length are) ∙ c.requires in
    (bits, are, rw c.loop-event.invariant.sum (nine_byte bits nine))
