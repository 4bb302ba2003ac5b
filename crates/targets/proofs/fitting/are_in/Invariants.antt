use Rattle.std.proofs.Common.{ℕ, ◌<◌, slice_index_or}
use Rattle.targets.specs.Fitting.{IsIn}
use Rattle.targets.proofs.fitting.are_in.Given as goal

-- those before this one are
abbrev pub invariant-loop-byte : goal.invariant-loop-byte
invariant-loop-byte l = (k d : ℕ) → k < l.byte-index → IsIn l.range (slice_index_or l.bytes k d)
