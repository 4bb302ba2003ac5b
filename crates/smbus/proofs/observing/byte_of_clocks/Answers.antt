use Rattle.std.proofs.Common.{◌<◌, ◌^◌, arith}
use Rattle.smbus.proofs.ReadClocks.{next_byte, number_below, is_high}
use Rattle.smbus.proofs.observing.byte_of_clocks.Goals as goal

pub overflow_cast-result : goal.overflow_cast-result
overflow_cast-result c =
    let few : c.in-Some.number < 2 ^ 9 =
    number_below c.args.runs.now 9 c.in-Some.number 9 (omega arith) c.in-Some.ensures in
    omega (arith, few)

pub returns-clause-byte : goal.returns-clause-byte
returns-clause-byte c =
    next_byte c.args.runs.now c.in-Some.number _ (omega (arith, c.if-runs-lt21.false))
    c.in-Some.ensures c.if-low.false (is_high _ c.if-not-high.false)
