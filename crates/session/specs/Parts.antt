-- The sections of a text that may be a bundle.
use Rattle.std.specs.Prelude.{ℕ, List, [], Result, Ok, Err, map}
use Rattle.std.specs.Str.Lines.{lines}
use Rattle.bundles.specs.Bundles.{Section, Bundle, bundle_of}
use Rattle.bundles.specs.Views.{section_view}
use Rattle.bundles.specs.declared.fault.BundleFault.{BundleFault}
use Rattle.bundles.specs.declared.section.Section.{Section as SectionCode}

abbrev pub sections_view : List SectionCode → List Section
sections_view sections = map section_view sections

abbrev pub sections_or_none : Result Bundle BundleFault → List Section
sections_or_none (Ok bundle) = bundle.sections
sections_or_none (Err fault) = []

-- the sections of a text; none where it is no bundle
abbrev pub sections_in : List ℕ → List Section
sections_in text = sections_or_none (bundle_of (lines text))
