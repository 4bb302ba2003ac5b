use Rattle.std.proofs.Common.{◌≡◌, ◌++◌, drop}
use Rattle.smbus.specs.Protocol.{got, marks_of}
use Rattle.smbus.proofs.slots.push_got.Given as goal

abbrev pub invariant-loop-place : goal.invariant-loop-place
invariant-loop-place l =
    l.slots.items ++ marks_of (got (drop l.place l.bytes))
    ≡ l.fn.slots.items ++ marks_of (got l.bytes)
