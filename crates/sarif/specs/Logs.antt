-- A log of SARIF 2.1.0 (OASIS, sections 3.13 to 3.30), as JSON. Members stand in the order of
-- their keys.
use Rattle.std.specs.Prelude.{ℕ, List, [], ◌∷◌, Option, Some, None, codes, map, option_copied}
use Rattle.std.specs.Prelude.{unwrap_or}
use Rattle.serde_json.specs.Data.{Data, number, unsigned, string, array, object}
use Rattle.serde_json.specs.Data.{Members, member, no_members}
use Rattle.serde_json.specs.View.{items_of}
use Rattle.notes.specs.Notes.{level_word}
use Rattle.notes.specs.declared.note.Note.{Note}
use Rattle.notes.specs.declared.print.InFile.{InFile}
use Rattle.sarif.specs.Messages.{message_text}
use Rattle.sarif.specs.Uris.{uri_of}

abbrev pub text_at : List ℕ → List ℕ → Members → Members
text_at key text members = member key (string text) members

abbrev pub number_at : List ℕ → ℕ → Members → Members
number_at key n members = member key (number (unsigned n)) members

abbrev pub object_at : List ℕ → Members → Members → Members
object_at key inner members = member key (object inner) members

abbrev pub array_at : List ℕ → List Data → Members → Members
array_at key items members = member key (array (items_of items)) members

-- section 3.30
abbrev pub region_members : Option ℕ → ℕ → Members
region_members None line = number_at (codes "startLine") line no_members
region_members (Some column) line =
    number_at (codes "startColumn") column (number_at (codes "startLine") line no_members)

abbrev pub region_of : Note → Data
region_of n = object (region_members n.column n.line)

-- section 3.28
abbrev pub location_of : List ℕ → Note → Data
location_of name n =
    object (object_at (codes "physicalLocation")
    (object_at (codes "artifactLocation") (text_at (codes "uri") (uri_of name) no_members)
    (member (codes "region") (region_of n) no_members)) no_members)

-- the page that explains a note, or else its level
abbrev pub rule_of : Note → List ℕ
rule_of n = unwrap_or (option_copied n.page) (level_word n.level)

-- section 3.27
abbrev pub result_of : List ℕ → Note → Data
result_of name n =
    object (text_at (codes "level") (level_word n.level)
    (array_at (codes "locations") (location_of name n ∷ [])
    (object_at (codes "message") (text_at (codes "text") (message_text n) no_members)
    (text_at (codes "ruleId") (rule_of n) no_members))))

abbrev pub results_of : List (List ℕ × Note) → List Data
results_of notes = map (λ (n : List ℕ × Note). result_of n.0 n.1) notes

abbrev pub driver_of : List ℕ → Members
driver_of version =
    text_at (codes "name") (codes "pmseq") (text_at (codes "version") version no_members)

-- section 3.14
abbrev pub run_with : List ℕ → Data → Data
run_with version results =
    object (member (codes "results") results
    (object_at (codes "tool") (object_at (codes "driver") (driver_of version) no_members)
    no_members))

-- section 3.13
abbrev pub log_with : List ℕ → Data → Data
log_with version results =
    object (text_at (codes "$schema") (codes "https://json.schemastore.org/sarif-2.1.0.json")
    (array_at (codes "runs") (run_with version results ∷ [])
    (text_at (codes "version") (codes "2.1.0") no_members)))

-- a note, and the name of its file
abbrev pub named : InFile → List ℕ × Note
named n = (n.name.now, n.note.now)

abbrev pub log_of : List ℕ → List (List ℕ × Note) → Data
log_of version notes = log_with version (array (items_of (results_of notes)))
