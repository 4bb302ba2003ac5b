use Rattle.std.proofs.Common.{◌≡◌, ◌<◌, ◌-◌, ◌++◌, ◌∷◌, [], ℕ, false, length}
use Rattle.std.specs.Prelude.{IsTrue}
use Rattle.board_lints.specs.Lints.{LeadsOn}
use Rattle.board_lints.specs.Ready.{is_ready, AreRails}
use Rattle.board_lints.proofs.circle.circle_from.Given as goal

-- the way so far leads on to where it is, which isn't ready
abbrev pub invariant-loop-first : goal.invariant-loop-first
invariant-loop-first l = record {
  rails : AreRails l.board l.way.items;
  leads : LeadsOn l.board (l.way.items ++ l.here ∷ []);
  within : l.here < length l.board.rails;
  stuck : is_ready l.ready l.here ≡ false;
  behind : (d : ℕ) → IsTrue (is_ready l.way.items d) → is_ready l.ready d ≡ false;
}

abbrev pub decreases-loop-first : goal.decreases-loop-first
decreases-loop-first l = length l.board.rails - length l.way.items
