use Rattle.std.proofs.Common.{◌≡◌, ◌++◌, string_bytes}
use Rattle.session.specs.SectionTexts.{section_text}
use Rattle.bundles.specs.Views.{section_view}
use Rattle.session.proofs.section.section_text.Given as goal

abbrev pub invariant-loop-line : goal.invariant-loop-line
invariant-loop-line l =
    string_bytes l.text ++ section_text (section_view l.rest)
    ≡ section_text (section_view l.section)

abbrev pub decreases-loop-line : goal.decreases-loop-line
decreases-loop-line l = l.rest.count
