use Rattle.std.proofs.Common.{◌≡◌}
use Rattle.facts.specs.domain.Rows.{row_view}
use Rattle.program_lints.specs.NoRail.{selects_bare}
use Rattle.program_lints.specs.Reached.{some_below}
use Rattle.program_lints.proofs.no_rail.selects_some_bare.Given as goal

abbrev pub invariant-loop-page : goal.invariant-loop-page
invariant-loop-page l =
    l.is_bare ≡ some_below (selects_bare l.board (row_view l.row) l.target) l.page
