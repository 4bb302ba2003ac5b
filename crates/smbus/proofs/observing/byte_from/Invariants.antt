use Rattle.std.proofs.Common.{◌≡◌, drop, take}
use Rattle.wires.specs.Bits.{number_of}
use Rattle.smbus.proofs.Bytes.{number_from}
use Rattle.smbus.proofs.observing.byte_from.Given as goal

abbrev pub invariant-loop-bit : goal.invariant-loop-bit
invariant-loop-bit l =
    number_from l.byte (drop l.bit-index l.bit-items) ≡ number_of (take 8 l.bits)
