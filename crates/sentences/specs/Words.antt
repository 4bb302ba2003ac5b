-- What the words of a sentence say.
use Rattle.std.specs.Prelude.{◌==◌, ◌&&◌, ◌++◌, ◌∷◌, ℕ, List, [], false, Option, Some}
use Rattle.std.specs.Prelude.{None, codes, if◌then◌else◌, nat_lt, option_map, slice_get, true}
use Rattle.std.specs.Prelude.{ℤ, ◌*◌, ◌/◌, unwrap_or}
use Rattle.std.specs.Borrow.{Bor}
use Rattle.std.specs.Fmt.{decimal, digits}
use Rattle.std.specs.List.{filter, join_by, range_with_len}
use Rattle.texts.specs.Hex as hex
use Rattle.pmbus_table.specs.Commands.{command_at, name_text}
use Rattle.pmbus_table.specs.Protect.{permits, protections}
use Rattle.pmbus_table.specs.Codes.{all_pages}
use Rattle.pmbus_table.specs.Voltage.{mantissas_in_volt}
use Rattle.facts.specs.domain.Sets.{Set, pages_in, protects_in}
use Rattle.notes.specs.ShownLines.{quoted}
use Rattle.sentences.specs.declared.word.Figure.{Figure}
use Rattle.sentences.specs.declared.word.Figure.TheVariants as figures
use Rattle.sentences.specs.declared.word.Word.{Word}
use Rattle.sentences.specs.declared.word.Word.TheVariants as words

-- the name of an index, if there is one
abbrev pub name_at : ℕ → List (List ℕ) → List ℕ
name_at index names = unwrap_or (slice_get names index) []

-- `"a", "b"`
abbrev pub names_text : List (Bor (List ℕ)) → List ℕ
names_text [] = []
names_text (name ∷ names) =
    codes "\"" ++ (join_by (λ n. n.now) (codes "\", \"") (name ∷ names) ++ codes "\"")

-- a span of numbers, or the only one
abbrev pub span_text : ℕ → ℕ → List ℕ
span_text low high =
    if low == high then decimal low else decimal low ++ (codes " to " ++ decimal high)

-- upper case hexadecimal digits: four, at least two, or as many as there are
abbrev pub hex_text : ℕ → ℕ → List ℕ
hex_text number count =
    if count == 4 then hex.word_text number
    else if (count == 2) && nat_lt number 256 then hex.pair_text number
    else digits 16 true number

-- bytes of two digits, each behind a text, and a text between each two
abbrev pub bytes_text : List ℕ → List ℕ → List ℕ → List ℕ
bytes_text before between bytes = join_by (λ byte. before ++ hex.pair_text byte) between bytes

-- the values of PAGE in a set: pages 0 to 31, and FFh for all (PMBus 1.3 Part II, 11.10)
abbrev pub page_values : Set → List ℕ
page_values set = filter set (range_with_len 0 32) ++ filter set (all_pages ∷ [])

-- the values of WRITE_PROTECT that permit a write of a command
abbrev pub permitting : ℕ → List ℕ
permitting code = filter (λ value. unwrap_or (permits value code) false) protections

-- the name of a command, if there is one
abbrev pub command_text : ℕ → List ℕ
command_text code = unwrap_or (option_map name_text (command_at code)) []

-- an entry of `allow`, as a board file has it
abbrev pub entry_text : List ℕ → Option ℕ → List ℕ
entry_text form None = codes "{form = \"" ++ (form ++ codes "\"}")
entry_text form (Some code) =
    codes "{form = \"" ++ (form ++ (codes "\", command = \"" ++ (command_text code ++ codes "\"}")))

-- the greatest mantissa within a limit in microvolts, where so many mantissas are a volt
abbrev pub greatest_text : ℕ → Option ℕ → List ℕ
greatest_text limit None = []
greatest_text limit (Some in_volt) = decimal (limit * in_volt / 1000000) ++ codes ", "

-- a limit, and before it the greatest mantissa within it at an exponent
abbrev pub limit_text : ℕ → ℤ → List ℕ
limit_text limit exponent =
    greatest_text limit (mantissas_in_volt exponent) ++ (decimal limit ++ codes " uV")

-- what a figure says
abbrev pub figure_text : Figure → List ℕ
figure_text (figures.Count count) = decimal count
figure_text (figures.Number number) = decimal number
figure_text (figures.Span low high) = span_text low high
figure_text (figures.Hex number count) = hex_text number count
figure_text (figures.Command code) = command_text code
figure_text (figures.Entry form code) = entry_text form.now code
figure_text (figures.Permitting code) = bytes_text (codes "0x") (codes " or ") (permitting code)
figure_text (figures.Voltage mantissa microvolts) =
    decimal mantissa ++ (codes ", " ++ (decimal microvolts ++ codes " uV"))
figure_text (figures.Limit limit exponent) = limit_text limit exponent

-- what a word says; nothing is claimed of a name that isn't ASCII
abbrev pub said : Word → Option (List ℕ)
said words.Nothing = Some []
said (words.Text text) = Some text.now
said (words.Name name) = quoted name.now
said (words.Pages pages) =
    Some (bytes_text [] (codes ", ") (page_values (pages_in pages.now)))
said (words.Protects protects) =
    Some (bytes_text [] (codes ", ") (filter (protects_in protects.now) protections))
said (words.Figure figure) = Some (figure_text figure)
