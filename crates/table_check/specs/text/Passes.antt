-- What the lines of a text say, one after another. No public contract cites this: `Texts` says what
-- is asked.
use Rattle.std.specs.Prelude.{ℕ, ◌+◌, ◌==◌, ◌&&◌, nat_lt, Bool, true, false, List, [], ◌∷◌, ◌++◌}
use Rattle.std.specs.Prelude.{length, map, Option, Some, None, is_some, option_map, option_and_then}
use Rattle.std.specs.Prelude.{Result, Ok, Err, if◌then◌else◌, codes}
use Rattle.std.specs.List.{slice_split}
use Rattle.std.specs.Str.{bytes_eq}
use Rattle.texts.specs.Reading.{◌>>=◌, some_or}
use Rattle.board.specs.Boards.{Board}
use Rattle.facts.specs.domain.Sets.{Set, is_page, is_protect, pages_in, protects_in, rails_in}
use Rattle.facts.specs.domain.Rows.{Row}
use Rattle.facts.specs.declared.domain.source.Source.{Source}
use Rattle.facts.specs.declared.domain.span.Span.{Span}
use Rattle.table_check.specs.declared.text.fault.TableFault.{TableFault}
use Rattle.table_check.specs.declared.text.fault.TableFault.TheVariants.{BadLine}
use Rattle.table_check.specs.declared.text.part.Part.{Part as CodePart}
use Rattle.table_check.specs.declared.text.pass.RowsSoFar.{RowsSoFar as CodePass}
use Rattle.table_check.specs.Tables.{Table, rows_view}
use Rattle.table_check.specs.declared.text.version.Version.{Version}
use Rattle.table_check.specs.declared.text.version.Version.TheVariants.{First, Second}
use Rattle.table_check.specs.text.Lines.{Words, version_words, line_of}
use Rattle.table_check.specs.text.Saying.{set_said, good_said, register_said}
use Rattle.table_check.specs.text.Saying.{counter_said, lost_said}
use Rattle.table_check.specs.text.Saying.{ticks_said, head_said}
use Rattle.texts.specs.Ascii as ascii

-- what is read of a row
pub record Part : Type 0 where
  pub pages : List Set
  pub protects : List Set
  pub good : Option Set
  pub regs : List (Span × Source)
  pub counters : List Span
  pub lost : Option Span

-- the form, the rows so far, and what is read of the next one
pub record RowsSoFar : Type 0 where
  pub version : Version
  pub rows : Table
  pub part : Option Part

abbrev pub part_view : CodePart → Part
part_view p = record {
  pages = map pages_in p.pages.items;
  protects = map protects_in p.protects.items;
  good = option_map rails_in p.good;
  regs = p.regs.items;
  counters = p.counters.items;
  lost = p.lost;
}

abbrev pub pass_view : CodePass → RowsSoFar
pass_view p = record {
  version = p.version;
  rows = rows_view p.rows.items;
  part = option_map part_view p.part;
}

-- the first form has no line for lost arbitrations: there may be any number of them
abbrev pub unsaid_lost : Version → Board → Option Span
unsaid_lost First b = Some record { lo = 0; hi = b.contentions }
unsaid_lost Second b = None

abbrev pub no_part : Version → Board → Part
no_part v b = record {
  pages = [];
  protects = [];
  good = None;
  regs = [];
  counters = [];
  lost = unsaid_lost v b;
}

abbrev pub no_pass : Version → RowsSoFar
no_pass v = record { version = v; rows = []; part = None }

-- a line more of each kind
unfoldable pub with_set : (ℕ → Bool) → List ℕ → Board → List Set → Words → Option (List Set)
with_set is_value key b sets words =
    option_map (λ set. sets ++ set ∷ []) (set_said is_value key b (length sets) words)

abbrev pub with_page : Board → Part → Words → Option Part
with_page b p words =
    option_map (λ sets. record p { pages = sets })
    (with_set is_page (codes "page") b p.pages words)

abbrev pub with_protect : Board → Part → Words → Option Part
with_protect b p words =
    option_map (λ sets. record p { protects = sets })
    (with_set is_protect (codes "protect") b p.protects words)

unfoldable pub with_good : Board → Part → Words → Option Part
with_good b p words = option_map (λ set. record p { good = Some set }) (good_said b words)

unfoldable pub with_register : Board → Part → Words → Option Part
with_register b p words =
    option_map (λ known. record p { regs = p.regs ++ known ∷ [] })
    (register_said b (length p.regs) words)

unfoldable pub with_counter : Part → Words → Option Part
with_counter p words =
    option_map (λ span. record p { counters = p.counters ++ span ∷ [] })
    (counter_said (length p.counters) words)

unfoldable pub with_lost : Part → Words → Option Part
with_lost p words = option_map (λ span. record p { lost = Some span }) (lost_said words)

abbrev pub is_missing : {X : Type 0} → Option X → Bool
is_missing None = true
is_missing (Some x) = false

-- the line that comes next
unfoldable pub with_line : Board → Part → Words → Option Part
with_line b p words =
    if nat_lt (length p.pages) (length b.targets) then with_page b p words
    else if nat_lt (length p.protects) (length b.targets) then with_protect b p words
    else if is_missing p.good then with_good b p words
    else if nat_lt (length p.regs) 8 then with_register b p words
    else if nat_lt (length p.counters) 4 then with_counter p words
    else with_lost p words

-- all registers and counters are there, and the lost arbitrations
abbrev pub is_full : Part → Bool
is_full p = (length p.regs == 8) && (length p.counters == 4) && is_some p.lost

-- the row, by its last line
abbrev pub row_from : Part → Set → Span → ℕ × List ℕ × ℕ → Row
row_from p good lost ticks = record {
  pages = p.pages;
  protects = p.protects;
  good = good;
  regs = map (λ known. known.0) p.regs;
  sources = map (λ known. known.1) p.regs;
  counters = p.counters;
  lost = lost;
  base = ticks.0;
  coeffs = ticks.1;
  lost_coeff = ticks.2;
}

unfoldable pub finished : Version → Part → Words → Option Row
finished v p words =
    option_and_then (λ good. option_and_then (λ lost.
    option_map (row_from p good lost) (ticks_said v words)) p.lost) p.good

-- the first line of a place
abbrev pub with_head : Board → RowsSoFar → Bool → RowsSoFar
with_head b pass true = record pass { part = Some (no_part pass.version b) }
with_head b pass false = record pass { rows = pass.rows ++ None ∷ [] }

abbrev pub with_first : Board → RowsSoFar → Words → Option RowsSoFar
with_first b pass words = option_map (with_head b pass) (head_said (length pass.rows) words)

-- the last line of a row
abbrev pub with_last : RowsSoFar → Part → Words → Option RowsSoFar
with_last pass p words =
    option_map (λ row. record pass { rows = pass.rows ++ Some row ∷ []; part = None })
    (finished pass.version p words)

-- the first line of a row, or its last one
abbrev pub with_end : Board → RowsSoFar → Option Part → Words → Option RowsSoFar
with_end b pass None words = with_first b pass words
with_end b pass (Some p) words = with_last pass p words

-- a line more
abbrev pub in_part : Board → RowsSoFar → Part → Words → Option RowsSoFar
in_part b pass p words =
    if is_full p then with_last pass p words
    else option_map (λ q. record pass { part = Some q }) (with_line b p words)

abbrev pub after_words : Board → RowsSoFar → Option Part → Words → Option RowsSoFar
after_words b pass None words = with_first b pass words
after_words b pass (Some p) words = in_part b pass p words

-- words are parted by one space
abbrev pub parted : List ℕ → Words
parted line = slice_split (λ c. c == ascii.space) line

unfoldable pub after_line : Board → RowsSoFar → List ℕ → Option RowsSoFar
after_line b pass line = after_words b pass pass.part (parted line)

-- the lines from the one with this number on
abbrev pub after_lines : Board → ℕ → RowsSoFar → List (List ℕ) → Result RowsSoFar TableFault
after_lines b n pass [] = Ok pass
after_lines b n pass (line ∷ more) =
    some_or (BadLine n) (after_line b pass line) >>= λ next. after_lines b (n + 1) next more

-- the table, where no row is left unfinished
abbrev pub whole_of : ℕ → RowsSoFar → Option Part → Result Table TableFault
whole_of lines pass None = Ok pass.rows
whole_of lines pass (Some part) = Err (BadLine (lines + 1))

abbrev pub whole : ℕ → RowsSoFar → Result Table TableFault
whole lines pass = whole_of lines pass pass.part

-- the form, and the lines behind the one that says it
abbrev pub version_of : List (List ℕ) → Version × List (List ℕ)
version_of [] = (First, [])
version_of (line ∷ more) =
    if bytes_eq line (line_of version_words) then (Second, more) else (First, line ∷ more)

abbrev pub first_number : Version → ℕ
first_number First = 1
first_number Second = 2

unfoldable pub table_in : Board → List (List ℕ) → Result Table TableFault
table_in b lines =
    let v = version_of lines in
    after_lines b (first_number v.0) (no_pass v.0) v.1 >>= λ pass. whole (length lines) pass
