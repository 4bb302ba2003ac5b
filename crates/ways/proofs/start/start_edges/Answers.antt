use Rattle.std.proofs.Common.{All, refl, subst, sym}
use Rattle.std.proofs.lemmas.List.Elements.{All-push}
use Rattle.ways.specs.Trails.{IsStartEdge}
use Rattle.ways.proofs.start.start_edges.Goals as goal

pub loop-number-preserved : goal.loop-number-preserved
loop-number-preserved c =
    subst (All (IsStartEdge c.args.board.now)) (sym c.in_ok-push-2.ensures.items)
    (All-push (IsStartEdge c.args.board.now) c.loop-number.edges.items _ c.loop-number.invariant
    (record { first = refl; starts = c.in_ok-start_row-2.ensures }))
