use Rattle.std.proofs.Common.{◌≡◌, ◌++◌, drop, map, string_bytes}
use Rattle.smbus.specs.Text.{bit_digit}
use Rattle.smbus.proofs.text.push_bits.Given as goal

abbrev pub invariant-loop-bit : goal.invariant-loop-bit
invariant-loop-bit l =
    string_bytes l.text ++ map bit_digit (drop l.bit-index l.bits)
    ≡ string_bytes l.fn.text ++ map bit_digit l.bits
