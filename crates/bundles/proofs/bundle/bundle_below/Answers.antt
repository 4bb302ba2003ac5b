use Rattle.std.proofs.Common.{◌≡◌, ◌≤◌, sym, ◌∙◌, ap, arith, length}
use Rattle.std.proofs.lemmas.List.{length-map}
use Rattle.std.specs.Str.Lines.{lines}
use Rattle.bundles.specs.Views.{section_view}
use Rattle.bundles.proofs.Parts.{length-sections_of}
use Rattle.bundles.proofs.bundle.bundle_below.Goals as goal

pub returns-clause-whole : goal.returns-clause-whole
returns-clause-whole c =
    let count : length c.in_ok-sections.sections.items ≡ c.in-Ok.above
    =
    sym (length-map c.in_ok-sections.sections.items section_view)
    ∙ ap length c.in_ok-sections.ensures ∙ length-sections_of (lines c.args.text.now)
    ∙ sym c.in-Ok.ensures.count in
    let all : length c.headers-headers.result.now ≤ c.in-Ok.above = c.in_default.ensures.lookup.3 in
    omega (arith, count, all, c.in-Ok.ensures.most, ap length c.headers-headers.ensures)
