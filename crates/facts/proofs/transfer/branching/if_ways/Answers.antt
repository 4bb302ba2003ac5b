use Rattle.facts.specs.domain.Rows.{row_view, span_at}
use Rattle.facts.specs.transfer.Edges.{if_may_jump, if_jump_row, if_may_go_on, if_next_row, edge_if}
use Rattle.facts.specs.transfer.Ways.{way_list}
use Rattle.facts.proofs.Coded.Possible.{both}
use Rattle.facts.proofs.transfer.branching.if_ways.Goals as goal

pub returns : goal.returns
returns c =
    let r = c.args.register in
    let s = span_at c.args.row.now.regs r in
    both (row_view c.args.row.now) r (way_list c.in_ok-first.first)
    (way_list c.in_ok-second.second)
    (edge_if (if_may_jump s c.args.mask c.args.value) c.args.jump
    (if_jump_row (row_view c.args.row.now) r c.args.mask c.args.value))
    (edge_if (if_may_go_on s c.args.mask c.args.value) c.args.next
    (if_next_row (row_view c.args.row.now) r c.args.mask c.args.value))
    c.in_ok-first.ensures c.in_ok-second.ensures
