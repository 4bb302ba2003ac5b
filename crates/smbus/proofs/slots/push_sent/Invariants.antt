use Rattle.std.proofs.Common.{◌≡◌, ◌++◌, drop}
use Rattle.smbus.specs.Protocol.{sent, marks_of}
use Rattle.smbus.proofs.slots.push_sent.Given as goal

abbrev pub invariant-loop-byte : goal.invariant-loop-byte
invariant-loop-byte l =
    l.slots.items ++ marks_of (sent (drop l.byte-index l.bytes))
    ≡ l.fn.slots.items ++ marks_of (sent l.bytes)
