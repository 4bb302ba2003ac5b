use Rattle.std.proofs.Common.{◌∙◌, ap, sym}
use Rattle.facts.specs.domain.Rows.{Row, row_view, span_at}
use Rattle.facts.specs.declared.domain.span.Span.{Span}
use Rattle.facts.specs.transfer.Edges.{if_may_jump, if_jump_row}
use Rattle.facts.specs.transfer.Ways.{way_list}
use Rattle.facts.proofs.Coded.Possible.{there_is}
use Rattle.facts.proofs.transfer.branching.jump_way.Goals as goal

pub returns-in_ok-copied : goal.returns-in_ok-copied
returns-in_ok-copied c =
    let r = c.args.register in
    let m = c.args.mask in
    let v = c.args.value in
    there_is (row_view c.args.row.now) (row_view c.jump_row-row_there.result)
    (if_jump_row (row_view c.args.row.now) r m v) r c.args.to (way_list c.possible.result)
    (if_may_jump (span_at c.args.row.now.regs r) m v) c.possible.ensures
    (c.jump_row-row_there.ensures
    ∙ ap (λ (x : Row). if_jump_row x r m v) c.in_ok-copied.ensures.view)
    (ap (λ (s : Span). if_may_jump s m v) (sym c.reg_at.ensures) ∙ sym c.may_jump.ensures
    ∙ c.if-may_jump.true)
