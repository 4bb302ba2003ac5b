-- A bundle as a whole text: a command on the first line, and then its sections, each below its
-- header.
use Rattle.std.specs.Prelude.{ℕ, ◌+◌, List, [], ◌∷◌, length, take, drop, count_by, find, slice_get}
use Rattle.std.specs.Prelude.{Bool, false, not, ◌||◌, ◌==◌, nat_lt, Option, Some, None, option_map}
use Rattle.std.specs.Prelude.{Result, Ok, Err, if◌then◌else◌, codes, map}
use Rattle.std.specs.List.{list_all, slice_index, slice_split, enumerate_from}
use Rattle.std.specs.Str.{bytes_eq}
use Rattle.std.specs.Str.Lines.{lines}
use Rattle.texts.specs.Reading.{◌>>=◌, some_or}
use Rattle.texts.specs.Words.{named_among}
use Rattle.bundles.specs.declared.fault.BundleFault.{BundleFault}
use Rattle.bundles.specs.declared.command.Command.{Command}
use Rattle.bundles.specs.declared.command.Command.TheVariants.{Frame, Run, Wave, Check, Find}
use Rattle.bundles.specs.declared.command.Command.TheVariants.{Verify, Play, Refute, Draft}
use Rattle.bundles.specs.declared.command.Header.{Header}
use Rattle.bundles.specs.declared.command.Header.TheVariants.{Message, Board, Program, Answers}
use Rattle.bundles.specs.declared.command.Header.TheVariants.{Table, Seed, Plan}
use Rattle.bundles.specs.declared.fault.BundleFault.TheVariants.{NoCommand, UnknownCommand}
use Rattle.bundles.specs.declared.fault.BundleFault.TheVariants.{Unexpected, MissingSection}
use Rattle.texts.specs.Ascii as ascii

-- a line as its bytes
abbrev pub Line : Type 0
Line = List ℕ

abbrev pub command_text : Command → Line
command_text Frame = codes "%frame"
command_text Run = codes "%run"
command_text Wave = codes "%wave"
command_text Check = codes "%check"
command_text Find = codes "%find"
command_text Verify = codes "%verify"
command_text Play = codes "%play"
command_text Refute = codes "%refute"
command_text Draft = codes "%draft"

-- the commands by their lines
abbrev pub commands : List (Line × Command)
commands =
    map (λ command. (command_text command, command))
    (Frame ∷ Run ∷ Wave ∷ Check ∷ Find ∷ Verify ∷ Play ∷ Refute ∷ Draft ∷ [])

abbrev pub command_of : Line → Option Command
command_of line = named_among line commands

abbrev pub header_text : Header → Line
header_text Message = codes "%message"
header_text Board = codes "%board"
header_text Program = codes "%program"
header_text Answers = codes "%answers"
header_text Table = codes "%table"
header_text Seed = codes "%seed"
header_text Plan = codes "%plan"

-- the headers of the sections that a command wants, in order
abbrev pub headers_of : Command → List Header
headers_of Frame = Message ∷ []
headers_of Run = Board ∷ Program ∷ Answers ∷ []
headers_of Wave = Board ∷ Program ∷ Answers ∷ []
headers_of Check = Board ∷ Program ∷ Table ∷ []
headers_of Find = Board ∷ Program ∷ []
headers_of Verify = Board ∷ Program ∷ []
headers_of Play = Board ∷ Program ∷ Seed ∷ []
headers_of Refute = Board ∷ Program ∷ []
headers_of Draft = Board ∷ Plan ∷ []

-- nothing but spaces
abbrev pub is_blank : Line → Bool
is_blank line = list_all (λ b. b == ascii.space) line

-- a line that begins with `%`
abbrev pub starts_section : Line → Bool
starts_section line = slice_index line 0 == ascii.percent_sign

-- whether a line belongs below so many headers: as the next of them, or else as a blank line or as
-- a line of a section
abbrev pub is_header : Option Header → Line → Bool
is_header None line = false
is_header (Some header) line = bytes_eq line (header_text header)

abbrev pub belongs : List Header → ℕ → Line → Bool
belongs headers above line =
    if starts_section line then is_header (slice_get headers above) line
    else (is_blank line || nat_lt 0 above)

-- the first of the lines, with its place among them, that doesn't belong below the headers above it
abbrev pub is_unexpected : List Header → List Line → ℕ × Line → Bool
is_unexpected headers lines placed =
    not (belongs headers (count_by starts_section (take placed.0 lines)) placed.1)

abbrev pub first_unexpected : List Header → List Line → Option (ℕ × Line)
first_unexpected headers lines = find (is_unexpected headers lines) (enumerate_from 0 lines)

-- the lines below a header, and the number of the first of them in the bundle
pub record Section : Type 0 where
  pub first_line : ℕ
  pub lines : List Line

-- the parts between header lines, where the first line of the first part has this number
abbrev pub numbered : ℕ → List (List Line) → List Section
numbered number [] = []
numbered number (part ∷ later) =
    record { first_line = number; lines = part } ∷ numbered (number + length part + 1) later

-- the sections are the parts below the header lines
abbrev pub sections_of : List Line → List Section
sections_of lines = drop 1 (numbered 2 (slice_split starts_section lines))

-- the parts of the lines below a header, if there is one
abbrev pub parts_below : Option (List ℕ) → List (List Line)
parts_below None = []
parts_below (Some text) = slice_split starts_section (lines text)

pub record Bundle : Type 0 where
  pub command : Command
  pub sections : List Section

-- the value, unless there is a fault
abbrev pub unless : {A : Type 0} → Option BundleFault → A → Result A BundleFault
unless None x = Ok x
unless (Some fault) x = Err fault

-- the lines below the command: the first that is unexpected, or else the first header that is
-- missing
unfoldable pub bundle_below : Command → List Line → Result Bundle BundleFault
bundle_below command lines = do
  placed ← unless (option_map (λ (placed : ℕ × Line). (Unexpected (placed.0 + 2)))
      (first_unexpected (headers_of command) lines)) lines
  whole ← unless (option_map (λ header. (MissingSection header))
      (slice_get (headers_of command) (count_by starts_section placed))) placed
  Ok (record { command = command; sections = sections_of whole })

-- the lines of a bundle
unfoldable pub bundle_of : List Line → Result Bundle BundleFault
bundle_of [] = Err (NoCommand)
bundle_of (first ∷ below) = some_or (UnknownCommand) (command_of first) >>= λ command.
    bundle_below command below
