use Rattle.std.proofs.Common.{◌≡◌, ◌∙◌, ◌+◌, ◌-◌, ◌≤◌, ap, sym, arith}
use Rattle.std.proofs.lemmas.List.Elements.{recursion_from_All}
use Rattle.facts.specs.declared.domain.span.Span.{Span}
use Rattle.facts.specs.domain.Rows.{rank, row_view}
use Rattle.table_check.specs.declared.checker.breach.Spot.{Spot}
use Rattle.table_check.specs.checker.Looking.{with_ticks}
use Rattle.table_check.proofs.Lacking.{at_dearest, lacks_there, pays_there}
use Rattle.table_check.proofs.checker.paying.lack_beside.Goals as goal

pub returns-then-needed-left : goal.returns-then-needed-left
returns-then-needed-left c =
    let b = c.args.board.now in
    let row = row_view c.args.row.now in
    let next = with_ticks row c.args.next in
    let after : c.ticks_at.result ≡ at_dearest b next row next =
    rw (c.contentions.ensures, c.dearest_spot-at.ensures) at c.ticks_at.ensures.exact in
    let before : c.ticks_at-left.result ≡ at_dearest b next row row =
    rw (c.ticks_of.ensures, c.contentions.ensures, c.dearest_spot-at.ensures)
    at c.ticks_at-left.ensures.exact in
    let ticks = c.from.ensures in
    let size = c.is_sized.ensures in
    let count = c.is_sized.ensures.2 in
    let le = c.if-needed-left.true in
    pays_there b c.args.worst next row (size.3 ∙ sym size.2) (omega (arith, count)) c.requires.lost
    (omega (arith, after, before, ticks, le))

pub returns-else-needed-left : goal.returns-else-needed-left
returns-else-needed-left c =
    let b = c.args.board.now in
    let row = row_view c.args.row.now in
    let next = with_ticks row c.args.next in
    let spot = c.dearest_spot-at.result in
    let after : c.ticks_at.result ≡ rank next spot.counters (b.contentions - spot.lost) =
    rw c.contentions.ensures at c.ticks_at.ensures.exact in
    let before : c.ticks_at-left.result ≡ rank row spot.counters (b.contentions - spot.lost) =
    rw (c.ticks_of.ensures, c.contentions.ensures) at c.ticks_at-left.ensures.exact in
    let ticks = c.from.ensures in
    let size = c.is_sized.ensures in
    let count = c.is_sized.ensures.2 in
    let lt = c.if-needed-left.false in
    lacks_there b c.args.worst next row (size.3 ∙ sym size.2)
    (omega (arith, count)) c.requires.order
    c.requires.lost (recursion_from_All (λ (s : Span). s.lo ≤ s.hi) row.counters c.requires.spans)
    spot (c.from.result + c.ticks_at.result) c.ticks_at-left.result
    (ap (λ (s : Spot). s.counters) c.dearest_spot-at.ensures)
    (ap (λ (s : Spot). s.lost) c.dearest_spot-at.ensures) (omega (arith, after, ticks)) before
    (omega (arith, lt))
