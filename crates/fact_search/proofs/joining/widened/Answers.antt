use Rattle.std.proofs.Common.{◌≤◌, arith}
use Rattle.facts.specs.declared.domain.span.Span.{Span}
use Rattle.facts.specs.domain.Rows.{no_span, row_view}
use Rattle.fact_search.proofs.Rows.Widened.{widens, widens_covers, all_by_index}
use Rattle.fact_search.proofs.joining.widened.Goals as goal

pub widen-requires-clause-most : goal.widen-requires-clause-most
widen-requires-clause-most c =
    all_by_index (λ (s : Span). s.hi ≤ 65535) c.args.row.regs no_span 8 c.requires.row.reg_count
    (λ r lt. let k = c.requires.row.reg_range r lt in omega (arith, k))

pub widen-requires-2-clause-most : goal.widen-requires-2-clause-most
widen-requires-2-clause-most c =
    all_by_index (λ (s : Span). s.hi ≤ 1000) c.args.row.counters no_span 4
    c.requires.row.counter_count (λ r lt. (c.requires.row.counters r lt).1)

pub returns-clause-row : goal.returns-clause-row
returns-clause-row c =
    widens c.args.board.now (row_view c.args.row) c.widen.new.spans c.widen-2.new.spans
    c.widen_lost-row.result c.requires.row c.widen.ensures.covers c.widen.ensures.most
    c.widen-2.ensures.covers c.widen-2.ensures.most c.widen_lost-row.ensures.covers
    c.widen_lost-row.ensures.most

pub returns-clause-covers : goal.returns-clause-covers
returns-clause-covers c =
    widens_covers c.args.board.now (row_view c.args.row) c.widen.new.spans c.widen-2.new.spans
    c.widen_lost-row.result c.widen.ensures.covers c.widen-2.ensures.covers
    c.widen_lost-row.ensures.covers
