use Rattle.std.proofs.Common.{take}
use Rattle.facts.specs.domain.Joining.{AreJoined}
use Rattle.facts.proofs.domain.part.join_all.Given as goal

abbrev pub invariant-loop-i : goal.invariant-loop-i
invariant-loop-i g l =
    AreJoined g.P.Part.Covers l.joined.items (take l.i l.parts) (take l.i l.others)
