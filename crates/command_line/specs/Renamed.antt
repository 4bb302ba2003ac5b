-- The file that stands for a section of a note.
use Rattle.std.specs.Prelude.{ℕ, List, [], ◌∷◌, string_bytes, if◌then◌else◌}
use Rattle.std.specs.Str.{bytes_eq}
use Rattle.bundles.specs.Bundles.{header_text}
use Rattle.command_line.specs.declared.named.SectionFile.{SectionFile}

-- a header, and its file's name
abbrev pub Named : Type 0
Named = List ℕ × List ℕ

abbrev pub section_of : SectionFile → Named
section_of file = (header_text file.header, string_bytes file.name)

-- the name of the first file with this header, or the section's own
abbrev pub name_of : List Named → List ℕ → List ℕ
name_of [] section = section
name_of (file ∷ files) section =
    if bytes_eq file.0 section then file.1 else name_of files section
