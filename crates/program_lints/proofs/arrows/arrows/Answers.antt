use Rattle.std.proofs.Common.{◌++◌, ◌∙◌, ◌≤◌, length, ap, arith, map}
use Rattle.table_check.specs.Tables.{table_view}
use Rattle.program_lints.specs.Flows.{arrow_from}
use Rattle.program_lints.proofs.Along.{more_places, all_places}
use Rattle.program_lints.proofs.arrows.arrows.Goals as goal

pub loop-place-preserved : goal.loop-place-preserved
loop-place-preserved c =
    more_places c.args.board.now c.args.program.now (table_view c.args.table.now)
    c.loop-place.place c.loop-place.arrows.items c.push_arrows.new.arrows.items
    c.in_ok-edges.edges.items c.in_ok-edges.ensures
    (c.in_ok-push_arrows.ensures
    ∙ ap (λ es. c.loop-place.arrows.items ++ map (arrow_from c.loop-place.place) es)
    c.deref.ensures.value)
    c.loop-place.invariant

pub returns : goal.returns
returns c =
    let end = c.loop-place-test.false in
    let count = c.places-place-end.ensures.count in
    let le : length c.args.program.now ≤ c.loop-place.place = omega (arith, end, count) in
    all_places c.args.board.now c.args.program.now (table_view c.args.table.now)
    c.loop-place.arrows.items c.loop-place.place le c.loop-place.invariant
