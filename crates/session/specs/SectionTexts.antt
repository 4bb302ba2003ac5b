-- A section as a text of its own.
use Rattle.std.specs.Prelude.{ℕ, List, [], ◌∷◌, ◌++◌}
use Rattle.std.specs.List.{flat_map}
use Rattle.bundles.specs.Bundles.{Line, Section}
use Rattle.texts.specs.Ascii as ascii

-- its lines, each of them ended by a line feed
abbrev pub section_text : Section → List ℕ
section_text section = flat_map (λ (line : Line). line ++ ascii.line_feed ∷ []) section.lines
