-- The parts of a drafted program.
use Rattle.std.specs.Prelude.{ℕ, List, ◌++◌, map, reverse}
use Rattle.board.specs.Boards.{Board}
use Rattle.plans.specs.declared.wish.Wish.{Wish}
use Rattle.drafts.specs.declared.part.Part.{Part}
use Rattle.drafts.specs.declared.part.Part.TheVariants as part
use Rattle.drafts.specs.Opening.{targets_to_open, targets_to_protect}

-- targets are opened, rails turned on in the order, targets protected, and rails turned off from
-- the last of the order on
abbrev pub outline : Board → List Wish → List ℕ → List Part
outline b wishes order =
    map part.Open (targets_to_open b wishes)
    ++ (map part.TurnOn order
    ++ (map part.Protect (targets_to_protect b wishes) ++ map part.TurnOff (reverse order)))
