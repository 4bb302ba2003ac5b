use Rattle.std.proofs.Common.{◌≡◌, ◌<◌, ◌≤◌, ℕ, false, length, Some}
use Rattle.std.specs.Prelude.{IsTrue}
use Rattle.facts.specs.domain.Sets.{rails_in}
use Rattle.run_monitor.specs.Telling.{TellsAfter}
use Rattle.run_monitor.proofs.judging.good_after.Given as goal

abbrev pub invariant-loop-index : goal.invariant-loop-index
invariant-loop-index l =
    ((d : ℕ) → d < l.index → d < length l.board.rails
    → TellsAfter l.board l.state (Some l.message) l.answer d
    (rails_in l.fn.good d) (rails_in l.after d))
    × ((d : ℕ) → IsTrue (rails_in l.after d) → d < length l.board.rails)
    × ((d : ℕ) → l.index ≤ d → rails_in l.after d ≡ false)
