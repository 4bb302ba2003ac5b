use Rattle.facts.specs.domain.Rows.{row_view}
use Rattle.facts.proofs.Coded.Possible.{if_led}
use Rattle.facts.proofs.transfer.going_on.other_ways.Goals as goal

pub returns-in-If : goal.returns-in-If
returns-in-If c =
    if_led c.args.place c.args.instr.now (row_view c.args.row.now) c.if_ways.result
    c.in-If.register c.index-in-If.result c.in-If.mask c.in-If.value c.in-If.jump c.in-If.is
    c.index-in-If.ensures.value c.if_ways.ensures
