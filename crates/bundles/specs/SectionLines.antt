-- Where the sections of a bundle stand in it.
use Rattle.std.specs.Prelude.{◌≡◌, ◌+◌, List, [], ◌∷◌, ◌++◌, length, Ok, All}
use Rattle.bundles.specs.Bundles.{Line, Section, Bundle, bundle_of}

-- the section's lines are lines of the bundle, and the first of them has its number, counted from 1
pub record StandsIn (lines : List Line) (section : Section) : Type 0 where
  pub above : List Line
  pub below : List Line
  pub parts : lines ≡ above ++ section.lines ++ below
  pub number : section.first_line ≡ length above + 1

abbrev pub SectionsStandInBundles : Type 0
SectionsStandInBundles = (lines : List Line) (bundle : Bundle) → bundle_of lines ≡ Ok bundle
    → All (StandsIn lines) bundle.sections

-- the number behind the last section's is the number of the bundle's lines plus one
abbrev pub LastSectionsEndBundles : Type 0
LastSectionsEndBundles =
    (lines : List Line) (bundle : Bundle) (before : List Section) (last : Section)
    → bundle_of lines ≡ Ok bundle → bundle.sections ≡ before ++ last ∷ []
    → last.first_line + length last.lines ≡ length lines + 1
