use Rattle.std.proofs.Common.{◌<◌, ℕ}
use Rattle.std.specs.Prelude.{IsTrue}
use Rattle.board_lints.specs.Ready.{is_ready}
use Rattle.board_lints.proofs.ready.first_stuck.Given as goal

abbrev pub invariant-loop-rail : goal.invariant-loop-rail
invariant-loop-rail l = (d : ℕ) → d < l.rail → IsTrue (is_ready l.ready d)
