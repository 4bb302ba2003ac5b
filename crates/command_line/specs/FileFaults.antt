-- What keeps a file from being judged, before it is looked at as a board, a program or anything
-- else.
use Rattle.std.specs.Prelude.{ℕ, ◌+◌, ◌==◌, ◌||◌, Bool, List, [], ◌∷◌, length, count_by, find}
use Rattle.std.specs.Prelude.{nat_lt, nat_eq}
use Rattle.std.specs.Prelude.{Option, Some, option_map, if◌then◌else◌}
use Rattle.std.specs.List.{list_any, enumerate_from, starts_with}
use Rattle.std.specs.Str.Lines.{lines}
use Rattle.texts.specs.Ascii as ascii
use Rattle.bundles.specs.Bundles.{Line, starts_section}
use Rattle.session.specs.Cases.{text_front}
use Rattle.command_line.specs.declared.file_fault.FileFault.{FileFault}
use Rattle.command_line.specs.declared.file_fault.FileFault.TheVariants as faults

-- the most bytes of a file
abbrev pub most_bytes : ℕ
most_bytes = 16777216

abbrev pub has_nul : Line → Bool
has_nul line = list_any (λ b. b == 0) line

-- a line that no file may have: it begins with `%`, or has a NUL
abbrev pub is_refused : Line → Bool
is_refused line = starts_section line || has_nul line

-- the first of the lines that is refused, with its number
abbrev pub first_refused : ℕ → List Line → Option (ℕ × Line)
first_refused number ls =
    find (λ (placed : ℕ × Line). is_refused placed.1) (enumerate_from number ls)

abbrev pub refused_as : ℕ × Line → FileFault
refused_as placed =
    if starts_section placed.1 then faults.Header placed.0 else faults.Nul placed.0

-- the first byte behind the text: lines and bytes are counted from 1
abbrev pub not_text : List ℕ → FileFault
not_text front =
    faults.NotText (count_by (λ b. b == ascii.line_feed) front + 1) (length front + 1)

-- U+FEFF in UTF-8
abbrev pub byte_order_mark : List ℕ
byte_order_mark = 239 ∷ 187 ∷ 191 ∷ []

-- what is wrong with a file: it is over 16 MiB, no UTF-8, begins with a byte order mark, or has a
-- line that no file may have
abbrev pub file_fault : List ℕ → Option FileFault
file_fault file =
    if nat_lt most_bytes (length file) then Some faults.TooLarge
    else (if nat_lt (length (text_front file)) (length file) then Some (not_text (text_front file))
    else (if starts_with nat_eq (text_front file) byte_order_mark then Some faults.ByteOrderMark
    else option_map refused_as (first_refused 1 (lines (text_front file)))))
