use Rattle.std.proofs.Common.{◌∙◌, ap, map, slice_set, List}
use Rattle.std.proofs.lemmas.List.{map-set}
use Rattle.facts.specs.domain.Sets.{Set, pages_in}
use Rattle.facts.specs.transfer.Edges.{clear, is_page_of}
use Rattle.facts.specs.domain.Rows.{row_view}
use Rattle.facts.specs.declared.domain.source.Source.{Source}
use Rattle.facts.proofs.transfer.clearing.with_page.Goals as goal

pub returns : goal.returns
returns c =
    ap (λ (x : List Source). record (row_view c.args.row) {
      pages = map pages_in (slice_set c.args.row.pages.items c.args.target c.args.set);
      sources = x;
    })
    c.clear_page-row.ensures
    ∙ ap (λ (x : List Set). record (row_view c.args.row)
    { pages = x; sources = clear (is_page_of c.args.target) c.args.row.sources })
    (map-set pages_in c.args.row.pages.items c.args.target c.args.set)
