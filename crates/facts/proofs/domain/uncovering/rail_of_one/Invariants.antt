use Rattle.std.proofs.Common.{◌<◌, ℕ, IsTrue}
use Rattle.facts.specs.domain.Sets.{rails_in}
use Rattle.facts.proofs.domain.uncovering.rail_of_one.Given as goal

abbrev pub invariant-loop-rail : goal.invariant-loop-rail
invariant-loop-rail l = (d : ℕ) → d < l.rail → IsTrue (rails_in l.good d)
    → IsTrue (rails_in l.other d)
