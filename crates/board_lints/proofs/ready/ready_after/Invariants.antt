use Rattle.std.proofs.Common.{ℕ, length, ◌-◌}
use Rattle.std.specs.Prelude.{IsTrue}
use Rattle.board_lints.specs.Reasons.{CanComeGood}
use Rattle.board_lints.specs.Ready.{is_ready, AreRails, AreAmong}
use Rattle.board_lints.proofs.ready.ready_after.Given as goal

abbrev pub invariant-loop-rail : goal.invariant-loop-rail
invariant-loop-rail l = record {
  rails : AreRails l.board l.ready.items;
  good : ((d : ℕ) → IsTrue (is_ready l.fn.some.items d) → CanComeGood l.board d)
      → (d : ℕ) → IsTrue (is_ready l.ready.items d) → CanComeGood l.board d;
  kept : AreAmong l.fn.some.items l.ready.items;
}

abbrev pub decreases-loop-rail : goal.decreases-loop-rail
decreases-loop-rail l = length l.board.rails - length l.ready.items
