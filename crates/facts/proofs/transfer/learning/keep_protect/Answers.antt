use Rattle.std.proofs.Common.{◌∙◌, ap, map, slice_set, List}
use Rattle.std.proofs.lemmas.List.{map-set}
use Rattle.facts.specs.domain.Sets.{Set, keeps, protects_in}
use Rattle.facts.specs.domain.Rows.{row_view}
use Rattle.facts.specs.transfer.Tests.{asked}
use Rattle.facts.proofs.transfer.learning.keep_protect.Goals as goal

pub returns : goal.returns
returns c =
    ap (λ (x : List Set). record (row_view c.args.row) { protects = x })
    (map-set protects_in c.args.row.protects.items c.args.target c.passing-kept.result
    ∙ ap (slice_set (map protects_in c.args.row.protects.items) c.args.target)
    (c.passing-kept.ensures ∙ ap (λ (s : Set). keeps s (asked c.args.test)) c.protects_at.ensures))
