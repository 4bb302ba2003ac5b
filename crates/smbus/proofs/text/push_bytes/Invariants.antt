use Rattle.std.proofs.Common.{◌≡◌, ◌++◌, drop, string_bytes}
use Rattle.smbus.specs.Text.{bytes_words, spaced}
use Rattle.smbus.proofs.text.push_bytes.Given as goal

abbrev pub invariant-loop-byte : goal.invariant-loop-byte
invariant-loop-byte l =
    string_bytes l.text ++ spaced (bytes_words (drop l.byte-index l.bytes))
    ≡ string_bytes l.fn.text ++ spaced (bytes_words l.bytes)
