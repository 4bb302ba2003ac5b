use Rattle.std.proofs.Common.{◌≡◌, ◌<◌, ◌≤◌, ◌&&◌, not, ℕ}
use Rattle.facts.specs.domain.Sets.{rails_in}
use Rattle.facts.specs.duties.Touching.{touched_in}
use Rattle.facts.proofs.transfer.withdrawing.good_left.Given as goal

abbrev pub invariant-loop-rail : goal.invariant-loop-rail
invariant-loop-rail l =
    ((d : ℕ) → d < l.rail
    → rails_in l.left d ≡ (rails_in l.fn.good d && not (touched_in l.board l.pages l.target d)))
    × ((d : ℕ) → l.rail ≤ d → rails_in l.left d ≡ rails_in l.fn.good d)
