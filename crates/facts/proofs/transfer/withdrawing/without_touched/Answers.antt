use Rattle.std.proofs.Common.{◌∙◌, ap, not, List}
use Rattle.facts.specs.domain.Sets.{Set, keeps, rails_in}
use Rattle.facts.specs.domain.Rows.{row_view}
use Rattle.facts.specs.transfer.Edges.{clear, is_status_of}
use Rattle.facts.specs.duties.Touching.{touched_in}
use Rattle.facts.specs.declared.domain.source.Source.{Source}
use Rattle.facts.proofs.Coded.Withdrawn.{touched_is}
use Rattle.facts.proofs.transfer.withdrawing.without_touched.Goals as goal

pub returns : goal.returns
returns c =
    let b = c.args.board.now in
    let row = row_view c.args.row in
    ap (λ (g : Set). record row { good = g; sources = c.clear_status-row.result })
    c.good_left-row.ensures
    ∙ ap (λ (x : List Source). record row {
      good =
          keeps (rails_in c.args.row.good)
          (λ d. not (touched_in b c.pages_at-pages.result c.args.target d));
      sources = x;
    })
    c.clear_status-row.ensures
    ∙ ap (λ (t : Set). record row {
      good = keeps (rails_in c.args.row.good) (λ d. not (t d));
      sources = clear (is_status_of t) c.args.row.sources;
    })
    (touched_is b row c.pages_at-pages.result c.args.target c.pages_at-pages.ensures)
