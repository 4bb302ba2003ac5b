use Rattle.std.proofs.Common.{◌≡◌}
use Rattle.bundles.proofs.field.parts_of.Given as goal

abbrev pub invariant-loop-part : goal.invariant-loop-part
invariant-loop-part l = l.parts.items ≡ l.yielded
