use Rattle.std.proofs.Common.{◌∙◌, ap}
use Rattle.seq_program.specs.RequestViews.{request_view}
use Rattle.facts.specs.declared.domain.span.Span.{Span}
use Rattle.facts.specs.domain.Rows.{Row, row_view}
use Rattle.facts.specs.transfer.Edges.{else_row}
use Rattle.facts.specs.transfer.Effects.{effect_view, done_with}
use Rattle.facts.proofs.Coded.SentEdges.{sent_are}
use Rattle.facts.proofs.transfer.sending.sent_ways.Goals as goal

pub returns : goal.returns
returns c =
    let b = c.args.board.now in
    let row = row_view c.args.row.now in
    let r = request_view c.args.request.now in
    let e = effect_view c.effect_of-effect.result in
    c.two_ways.ensures
    ∙ sent_are b c.args.place r row (row_view c.done_row-done.result)
    (row_view c.else_row-left.result) e c.effect_of-effect.ensures.effect
    (c.done_row-done.ensures
    ∙ ap (λ (x : Row). done_with b x r.target c.loaded-span.result e) c.in_ok-copied.ensures.view
    ∙ ap (λ (s : Span). done_with b row r.target s e) c.loaded-span.ensures)
    (c.else_row-left.ensures
    ∙ ap (λ (x : Row). else_row b x r.target e) c.in_ok-copied-2.ensures.view)
