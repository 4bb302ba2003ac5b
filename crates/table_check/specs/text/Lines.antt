-- The lines of a table, in both forms. Sets of pages and of protections are listed by their values.
use Rattle.std.specs.Prelude.{ℕ, ◌+◌, List, [], ◌∷◌, ◌++◌, length, map, filter, slice_get}
use Rattle.std.specs.Prelude.{Option, Some, None, unwrap_or, codes, zip}
use Rattle.std.specs.List.{range_with_len, join_with_byte, flat_map}
use Rattle.std.specs.Fmt.{decimal}
use Rattle.texts.specs.Hex.{pair_text}
use Rattle.board.specs.Boards.{Board}
use Rattle.facts.specs.domain.Sets.{Set}
use Rattle.facts.specs.domain.Rows.{Row}
use Rattle.facts.specs.declared.domain.source.Source.{Source}
use Rattle.facts.specs.declared.domain.source.Source.TheVariants as source
use Rattle.facts.specs.declared.domain.span.Span.{Span}
use Rattle.table_check.specs.Tables.{Table}
use Rattle.table_check.specs.declared.text.version.Version.{Version}
use Rattle.table_check.specs.declared.text.version.Version.TheVariants.{First, Second}
use Rattle.texts.specs.Ascii as ascii

-- the words of a line
abbrev pub Words : Type 0
Words = List (List ℕ)

abbrev pub register_names : Words
register_names =
    codes "r0" ∷ codes "r1" ∷ codes "r2" ∷ codes "r3" ∷ codes "r4" ∷ codes "r5" ∷ codes "r6"
    ∷ codes "r7" ∷ []

abbrev pub counter_names : Words
counter_names = codes "c0" ∷ codes "c1" ∷ codes "c2" ∷ codes "c3" ∷ []

abbrev pub name_at : Words → ℕ → List ℕ
name_at names index = unwrap_or (slice_get names index) []

-- the values of a set below so much, ascending
unfoldable pub values_below : ℕ → Set → List ℕ
values_below most set = filter set (range_with_len 0 most)

-- two digits for each value
abbrev pub byte_words : Set → Words
byte_words set = map pair_text (values_below 256 set)

-- a key, a target and the values
abbrev pub set_words : List ℕ → Board → ℕ → Set → Words
set_words key b target set = key ∷ name_at b.target_names target ∷ byte_words set

-- `page T` and the values, and `protect T` and the values
abbrev pub page_words : Board → ℕ → Set → Words
page_words b target set = set_words (codes "page") b target set

abbrev pub protect_words : Board → ℕ → Set → Words
protect_words b target set = set_words (codes "protect") b target set

-- `good` and the rails' names
abbrev pub rail_words : Board → Set → Words
rail_words b set = map (name_at b.rail_names) (values_below (length b.rails) set)

abbrev pub good_words : Board → Set → Words
good_words b set = codes "good" ∷ rail_words b set

-- `none`, `status RAIL`, `page T` or `protect T`
abbrev pub source_words : Board → Source → Words
source_words b source.None = codes "none" ∷ []
source_words b (source.Status rail) = codes "status" ∷ name_at b.rail_names rail ∷ []
source_words b (source.Page target) = codes "page" ∷ name_at b.target_names target ∷ []
source_words b (source.Protect target) = codes "protect" ∷ name_at b.target_names target ∷ []

-- `reg rN LO HI SOURCE`
abbrev pub register_words : Board → ℕ → Span × Source → Words
register_words b register known =
    codes "reg" ∷ name_at register_names register ∷ decimal known.0.lo ∷ decimal known.0.hi
    ∷ source_words b known.1

-- `counter cN LO HI`
abbrev pub counter_words : ℕ → Span → Words
counter_words counter span =
    codes "counter" ∷ name_at counter_names counter ∷ decimal span.lo ∷ decimal span.hi ∷ []

-- the second form says so first: `version 2`
abbrev pub version_words : Words
version_words = codes "version" ∷ codes "2" ∷ []

abbrev pub version_lines : Version → List Words
version_lines First = []
version_lines Second = version_words ∷ []

-- and has a line for lost arbitrations: `lost LO HI`
abbrev pub lost_words : Span → Words
lost_words span = codes "lost" ∷ decimal span.lo ∷ decimal span.hi ∷ []

abbrev pub lost_lines : Version → Row → List Words
lost_lines First r = []
lost_lines Second r = lost_words r.lost ∷ []

-- whose coefficient comes last
abbrev pub factors : Version → List ℕ → ℕ → List ℕ
factors First coeffs lost = coeffs
factors Second coeffs lost = coeffs ++ lost ∷ []

-- `ticks BASE K0 K1 K2 K3`, and in the second form `K`
abbrev pub ticks_words : ℕ → List ℕ → Words
ticks_words base coeffs = codes "ticks" ∷ decimal base ∷ map decimal coeffs

-- `row N`, and `row N none`
abbrev pub head_words : ℕ → Words
head_words place = codes "row" ∷ decimal place ∷ []

abbrev pub none_words : ℕ → Words
none_words place = codes "row" ∷ decimal place ∷ codes "none" ∷ []

-- a line for each item, which knows its index; the first one's is `index`
abbrev pub each_at : {X : Type 0} → (ℕ → X → Words) → ℕ → List X → List Words
each_at words_at index [] = []
each_at words_at index (x ∷ xs) = words_at index x ∷ each_at words_at (index + 1) xs

-- the lines of a place without a row, and with one
abbrev pub place_lines : Version → Board → ℕ → Option Row → List Words
place_lines v b place None = none_words place ∷ []
place_lines v b place (Some r) =
    head_words place
    ∷ (each_at (page_words b) 0 r.pages
    ++ (each_at (protect_words b) 0 r.protects
    ++ (good_words b r.good
    ∷ (each_at (register_words b) 0 (zip r.regs r.sources)
    ++ (each_at counter_words 0 r.counters
    ++ (lost_lines v r ++ ticks_words r.base (factors v r.coeffs r.lost_coeff) ∷ []))))))

-- those of all places from one on
abbrev pub lines_from : Version → Board → ℕ → Table → List Words
lines_from v b place [] = []
lines_from v b place (r ∷ rows) = place_lines v b place r ++ lines_from v b (place + 1) rows

abbrev pub words_of_table : Version → Board → Table → List Words
words_of_table v b t = version_lines v ++ lines_from v b 0 t

-- words are parted by one space
abbrev pub line_of : Words → List ℕ
line_of words = join_with_byte ascii.space words

abbrev pub table_lines : Version → Board → Table → List (List ℕ)
table_lines v b t = map line_of (words_of_table v b t)

-- a table is written in the second form; each line ends with LF
abbrev pub ended : List ℕ → List ℕ
ended line = line ++ ascii.line_feed ∷ []

abbrev pub table_text : Board → Table → List ℕ
table_text b t = flat_map ended (table_lines Second b t)
