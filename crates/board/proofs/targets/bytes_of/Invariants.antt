use Rattle.std.proofs.Common.{◌≡◌, [], drop}
use Rattle.toml.specs.View.{items_view}
use Rattle.board.specs.Targets.{bytes_of}
use Rattle.board.proofs.targets.bytes_of.Given as goal

abbrev pub invariant-loop-value : goal.invariant-loop-value
invariant-loop-value l =
    bytes_of l.place l.key l.bytes.items (items_view (drop l.value-index l.values))
    ≡ bytes_of l.place l.key [] (items_view l.values)
