use Rattle.std.proofs.Common.{ℕ, ◌∙◌, not, slice_index_or, false, ap, take, arith}
use Rattle.wires.specs.Bits.{number_of}
use Rattle.smbus.proofs.Bytes.{bit_byte, number_from-zero, number_from-next, number_from-end}
use Rattle.smbus.proofs.Bytes.{number_from-fits}
use Rattle.smbus.specs.Machine.{byte_of}
use Rattle.smbus.proofs.observing.byte_from.Goals as goal

pub loop-bit-init : goal.loop-bit-init
loop-bit-init c = number_from-zero (take 8 c.args.bits.now)

pub overflow_mul-byte : goal.overflow_mul-byte
overflow_mul-byte c =
    let fits = number_from-fits c.loop-bit.byte c.loop-bit.bit-index c.args.bits.now c.requires
    c.loop-bit-test.true c.loop-bit.invariant in
    omega arith

pub overflow_add-byte : goal.overflow_add-byte
overflow_add-byte c =
    let fits = number_from-fits c.loop-bit.byte c.loop-bit.bit-index c.args.bits.now c.requires
    c.loop-bit-test.true c.loop-bit.invariant in
    let is = c.from.ensures ∙ bit_byte _ in
    omega arith

pub loop-bit-preserved : goal.loop-bit-preserved
loop-bit-preserved c =
    rw (c.from.ensures ∙ bit_byte _)
    (number_from-next c.loop-bit.byte c.loop-bit.bit-index (take 8 c.args.bits.now) _
    c.loop-bit-test.true c.loop-bit.invariant)

pub returns : goal.returns
unfolding byte_of
returns c =
    ap (λ (n : ℕ). (n, not (slice_index_or c.args.bits.now 8 false)))
    (number_from-end c.loop-bit.byte c.loop-bit.bit-index (take 8 c.args.bits.now)
    (number_of (take 8 c.args.bits.now)) (omega (arith, c.loop-bit-test.false))
    c.loop-bit.invariant)
