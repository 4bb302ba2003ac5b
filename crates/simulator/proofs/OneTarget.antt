-- Two targets of one address are one.
use Rattle.std.proofs.Common.{◌≡◌, ℕ, Some, sym, ap, ◌∙◌}
use Rattle.board.specs.Boards.{Target, Board, place_of_address}
use Rattle.board.specs.Valid.{IsBoard}
use Rattle.targets.specs.PlaceLaws.{TargetsAreFound}
use Rattle.targets.specs.States.{IsTargetAt}

some_same : (i j : ℕ) → Some i ≡ Some j → i ≡ j
some_same i j e = cc

pub only_one : TargetsAreFound → (b : Board) → IsBoard b → (i j : ℕ) (t u : Target)
    → IsTargetAt b i t → IsTargetAt b j u → t.address ≡ u.address → i ≡ j
only_one found b is i j t u at uj same =
    some_same i j
    (sym (found b i t is at) ∙ (ap (λ (a : ℕ). place_of_address a b.targets) same
    ∙ found b j u is uj))
