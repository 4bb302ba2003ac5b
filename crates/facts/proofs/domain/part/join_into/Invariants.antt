use Rattle.facts.proofs.Coded.Joining.{AreJoinedTo}
use Rattle.facts.proofs.domain.part.join_into.Given as goal

abbrev pub invariant-loop-i : goal.invariant-loop-i
invariant-loop-i g l = AreJoinedTo g.P.Part.Alike g.P.Part.Covers l.i l.parts l.fn.parts l.others
