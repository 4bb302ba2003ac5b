use Rattle.facts.specs.domain.Rows.{row_view}
use Rattle.program_lints.specs.NoRail.{selects_bare}
use Rattle.program_lints.proofs.Below.{none_below, still_below, next_below}
use Rattle.program_lints.proofs.no_rail.selects_some_bare.Goals.{then-is_bare, else-is_bare}
use Rattle.program_lints.proofs.no_rail.selects_some_bare.Goals as goal

pub loop-page-init : goal.loop-page-init
loop-page-init c =
    none_below (selects_bare c.args.board.now (row_view c.args.row.now) c.args.target)

pub loop-page-preserved : goal.loop-page-preserved
loop-page-preserved c =
    let test = selects_bare c.args.board.now (row_view c.args.row.now) c.args.target in
    elim c.if-is_bare.branch [
      | then-is_bare w ↦
          still_below test c.loop-page.page c.loop-page.is_bare c.selects_bare-is_here.result
          c.if-is_bare.is_bare c.loop-page.invariant c.selects_bare-is_here.ensures
          w.if-is_bare.true w.is_bare-is
      | else-is_bare w ↦
          next_below test c.loop-page.page c.loop-page.is_bare c.selects_bare-is_here.result
          c.if-is_bare.is_bare c.loop-page.invariant c.selects_bare-is_here.ensures
          w.if-is_bare.false w.is_bare-is
    ]
