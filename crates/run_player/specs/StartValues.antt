-- Start values that are chosen. Private functions work with them.
use Rattle.std.specs.Prelude.{ℕ, List, [], ◌∷◌, Contains}
use Rattle.board.specs.Boards.{Target}

-- a value for each target, from its list
abbrev pub AreListed : (Target → List ℕ) → List ℕ → List Target → Type 0
AreListed listed [] [] = Unit {0}
AreListed listed (value ∷ values) (t ∷ targets) =
    Contains (listed t) value × AreListed listed values targets
AreListed listed [] (t ∷ targets) = ⊥
AreListed listed (value ∷ values) [] = ⊥
