use Rattle.std.proofs.Common.{◌<◌, ◌^◌, arith}
use Rattle.smbus.proofs.ReadClocks.{one_clock_more, number_below, bit_below, is_high}
use Rattle.smbus.proofs.observing.clocked_number.Goals as goal

pub overflow_mul-number : goal.overflow_mul-number
overflow_mul-number c =
    let few : c.loop-place.number < 2 ^ 8 =
    number_below c.args.runs.now c.loop-place.place c.loop-place.number 8
    (omega (arith, c.loop-place-test.true)) c.loop-place.invariant in
    omega (arith, few)

pub overflow_add-number : goal.overflow_add-number
overflow_add-number c =
    let few : c.loop-place.number < 2 ^ 8 =
    number_below c.args.runs.now c.loop-place.place c.loop-place.number 8
    (omega (arith, c.loop-place-test.true)) c.loop-place.invariant in
    omega (arith, few, bit_below _ _ c.from.ensures)

pub loop-place-preserved : goal.loop-place-preserved
loop-place-preserved c =
    one_clock_more c.args.runs.now c.loop-place.place c.loop-place.number c.from.result _
    (omega (arith, c.loop-place-test.true, c.requires)) c.if-low.false
    (is_high _ c.if-not-high.false)
    c.from.ensures c.loop-place.invariant
