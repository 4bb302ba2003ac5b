-- What a command asks for, from the sections of its bundle.
use Rattle.std.proofs.Common.{◌≡◌, ◌<◌, ℕ, List, length, map, sym, ap, ◌∙◌}
use Rattle.std.proofs.Math.ListN.{get_or}
use Rattle.std.proofs.lemmas.List.{get_or-map}
use Rattle.bundles.specs.declared.section.Section.{Section as SectionCode}
use Rattle.bundles.specs.Views.{section_view}
use Rattle.session.specs.Commands.{section_at}

pub section_is : (sections : List SectionCode) (place : ℕ) (section : SectionCode)
    → place < length sections → section ≡ get_or sections place section
    → section_at (map section_view sections) place ≡ section_view section
section_is sections place section few is =
    get_or-map section_view sections place section _ few ∙ ap section_view (sym is)
