use Rattle.std.proofs.Common.{◌≡◌, drop}
use Rattle.toml.specs.View.{items_view}
use Rattle.board.specs.Keys.{all_items, is_one}
use Rattle.board.proofs.keys.are_all.Given as goal

abbrev pub invariant-loop-value : goal.invariant-loop-value
invariant-loop-value l =
    all_items (is_one l.sort) (items_view (drop l.value-index l.values))
    ≡ all_items (is_one l.sort) (items_view l.values)
