-- Which bundles are read: those with exactly the sections of their command.
use Rattle.std.specs.Prelude.{◌≡◌, List, ◌∷◌, map, filter, Ok, IsTrue}
use Rattle.std.specs.List.{list_all, slice_split}
use Rattle.bundles.specs.declared.command.Command.{Command}
use Rattle.bundles.specs.Bundles.{Line, Section, Bundle, header_text, headers_of, is_blank}
use Rattle.bundles.specs.Bundles.{starts_section, bundle_below}

-- the header lines are those of the command, in order, and the lines above the first are blank
pub record IsWellFormed (command : Command) (lines : List Line) : Type 0 where
  pub headers : filter starts_section lines ≡ map header_text (headers_of command)
  pub above : List Line
  pub parts : List (List Line)
  pub split : slice_split starts_section lines ≡ above ∷ parts
  pub blank : IsTrue (list_all is_blank above)

-- the lines between the headers are the sections
pub record HasSections (bundle : Bundle) (command : Command)
    (parts : List (List Line)) : Type 0 where
  pub same_command : bundle.command ≡ command
  pub sections : map (λ (section : Section). section.lines) bundle.sections ≡ parts

abbrev pub WellFormedBundlesAreRead : Type 0
WellFormedBundlesAreRead =
    (command : Command) (lines : List Line) (formed : IsWellFormed command lines)
    → (bundle : Bundle) × (bundle_below command lines ≡ Ok bundle)
    × HasSections bundle command formed.parts

abbrev pub NoOthersAreRead : Type 0
NoOthersAreRead = (command : Command) (lines : List Line) (bundle : Bundle)
    → bundle_below command lines ≡ Ok bundle → IsWellFormed command lines
