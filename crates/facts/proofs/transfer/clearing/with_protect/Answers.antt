use Rattle.std.proofs.Common.{◌∙◌, ap, map, slice_set, List}
use Rattle.std.proofs.lemmas.List.{map-set}
use Rattle.facts.specs.domain.Sets.{Set, protects_in}
use Rattle.facts.specs.transfer.Edges.{clear, is_protect_of}
use Rattle.facts.specs.domain.Rows.{row_view}
use Rattle.facts.specs.declared.domain.source.Source.{Source}
use Rattle.facts.proofs.transfer.clearing.with_protect.Goals as goal

pub returns : goal.returns
returns c =
    ap (λ (x : List Source). record (row_view c.args.row) {
      protects = map protects_in (slice_set c.args.row.protects.items c.args.target c.args.set);
      sources = x;
    })
    c.clear_protect-row.ensures
    ∙ ap (λ (x : List Set). record (row_view c.args.row)
    { protects = x; sources = clear (is_protect_of c.args.target) c.args.row.sources })
    (map-set protects_in c.args.row.protects.items c.args.target c.args.set)
