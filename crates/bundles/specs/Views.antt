-- What the code's values stand for.
use Rattle.std.specs.Prelude.{map, take}
use Rattle.std.specs.Str.Lines.{lines}
use Rattle.bundles.specs.declared.section.Section.{Section as SectionCode}
use Rattle.bundles.specs.declared.bundle.Bundle.{Bundle as BundleCode}
use Rattle.bundles.specs.Bundles.{Section, Bundle}

abbrev pub section_view : SectionCode → Section
section_view s = record { first_line = s.first_line; lines = take s.count (lines s.text.now) }

abbrev pub bundle_view : BundleCode → Bundle
bundle_view b = record { command = b.command; sections = map section_view b.sections.items }
