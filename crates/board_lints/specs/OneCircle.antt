-- One circle of needs that is told, and the rails that come good where its rails are.
use Rattle.std.specs.Prelude.{◌≡◌, ◌++◌, ◌∷◌, [], ℕ, List, IsTrue, false}
use Rattle.board.specs.Boards.{Board}
use Rattle.board_lints.specs.declared.lint.Lint.{Lint}
use Rattle.board_lints.specs.Lints.{Lints, IsCircle, rails_of}
use Rattle.board_lints.specs.Ready.{is_ready, AreAmong}

pub record TellsCircle (b : Board) (ready after : List ℕ) (before lints : Lints) : Type 0 where
  pub circle : Lint
  pub told : lints ≡ before ++ circle ∷ []
  pub is : IsCircle b circle
  pub new : (d : ℕ) → IsTrue (is_ready (rails_of circle) d) → is_ready ready d ≡ false
  pub kept : AreAmong ready after
  pub has : AreAmong (rails_of circle) after
