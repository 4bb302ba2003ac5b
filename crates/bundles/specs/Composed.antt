-- The bundle of a command and files: the command's line, and each header with its file's bytes.
use Rattle.std.specs.Prelude.{◌≡◌, ◌==◌, ℕ, Bool, true, false, List, [], ◌∷◌, ◌++◌, length, codes}
use Rattle.std.specs.Prelude.{map, All, Ok, if◌then◌else◌}
use Rattle.std.specs.Str.Lines.{lines}
use Rattle.texts.specs.Ascii as ascii
use Rattle.bundles.specs.declared.command.Command.{Command}
use Rattle.bundles.specs.declared.command.Header.{Header}
use Rattle.bundles.specs.Bundles.{Line, Bundle, Section, command_text, header_text, headers_of}
use Rattle.bundles.specs.Bundles.{starts_section, bundle_of}

-- the last line, if there is one, has its line feed
abbrev pub is_ended : List ℕ → Bool
is_ended [] = true
is_ended (b ∷ []) = b == ascii.line_feed
is_ended (b ∷ c ∷ later) = is_ended (c ∷ later)

-- the file's bytes, the last line ended by a line feed
abbrev pub ended : List ℕ → List ℕ
ended file = if is_ended file then file else file ++ codes "\n"

abbrev pub section_text : Header → List ℕ → List ℕ
section_text header file = header_text header ++ codes "\n" ++ file

-- each header with its file
abbrev pub sections_text : List Header → List (List ℕ) → List ℕ
sections_text [] files = []
sections_text (header ∷ headers) [] = []
sections_text (header ∷ headers) (file ∷ files) =
    section_text header file ++ sections_text headers files

-- the command's line, and each header with its file, and nothing else
abbrev pub composed : Command → List (List ℕ) → List ℕ
composed command files =
    command_text command ++ codes "\n" ++ sections_text (headers_of command) files

abbrev pub IsNoHeader : Line → Type 0
IsNoHeader line = starts_section line ≡ false

-- whole lines, none of which begins with `%`
pub record IsPlain (file : List ℕ) : Type 0 where
  pub whole : is_ended file ≡ true
  pub no_header : All IsNoHeader (lines file)

-- the bundle of files is read as the command, and its sections hold the lines of the files
pub record IsRead (command : Command) (files : List (List ℕ)) : Type 0 where
  pub bundle : Bundle
  pub read : bundle_of (lines (composed command files)) ≡ Ok bundle
  pub same_command : bundle.command ≡ command
  pub sections : map (λ (section : Section). section.lines) bundle.sections ≡ map lines files

abbrev pub ComposedBundlesAreRead : Type 0
ComposedBundlesAreRead = (command : Command) (files : List (List ℕ))
    → length files ≡ length (headers_of command) → All IsPlain files → IsRead command files
