use Rattle.std.proofs.Common.{◌≡◌, [], map, drop}
use Rattle.table_check.specs.text.Saying.{ascending, rail_named}
use Rattle.table_check.proofs.text.set_line.ascending_rails.Given as goal

abbrev pub invariant-loop-name : goal.invariant-loop-name
invariant-loop-name l =
    ascending (rail_named l.board) l.rails.items l.least
    (map (λ w. w.now) (drop l.name-index l.names))
    ≡ ascending (rail_named l.board) [] 0 (map (λ w. w.now) l.names)
