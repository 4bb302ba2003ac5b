-- The words of each line are words: a line is cut into them again.
use Rattle.std.proofs.Common.{◌≡◌, ℕ, zero, suc, ◌/◌, ◌%◌, ◌^◌, ◌<◌, ◌≤◌, ◌==◌, Bool}
use Rattle.std.proofs.Common.{true, false, List, [], ◌∷◌, ◌++◌, length, map, filter, All, refl, ap}
use Rattle.std.proofs.Common.{◌∙◌, arith, rules, Some, None, ◌+◌, nat_lt}
use Rattle.std.specs.Prelude.{zip}
use Rattle.std.specs.List.{list_all, AllPass, AllByRecursion, range_with_len}
use Rattle.std.specs.Char.{is_ascii_digit}
use Rattle.std.specs.Fmt.{decimal}
use Rattle.std.specs.Str.Parse.{digits_value}
use Rattle.std.proofs.lemmas.Bool.{and_parts, and_from, lt-ltb}
use Rattle.std.proofs.lemmas.Bool.Decides.{nat_tests}
use Rattle.std.proofs.lemmas.Fmt.{digits_decimal, decimal_nonempty}
use Rattle.std.proofs.lemmas.List.Elements.{All-weaker, recursion_from_All}
use Rattle.std.proofs.lemmas.List.Splits.{slice_split_none, slice_split_at}
use Rattle.std.proofs.lemmas.List.Splits.{join_with_byte-slice_split}
use Rattle.std.proofs.lemmas.List.Sums.{AllPass-from_list_all, list_all-from_AllPass}
use Rattle.std.proofs.lemmas.Str.Parse.{IsNumeralModel, numerals_by_value}
use Rattle.texts.specs.Hex.{digit_of, pair_text}
use Rattle.texts.specs.Names.{is_name, is_name_byte}
use Rattle.texts.specs.Words.{is_nonempty}
use Rattle.board.specs.Boards.{Board}
use Rattle.board.specs.Valid.{IsBoard}
use Rattle.seq_program.specs.JoinedWords.{is_word_byte, is_word}
use Rattle.facts.specs.domain.Sets.{Set, HasValue}
use Rattle.facts.specs.domain.Rows.{Row, IsSource}
use Rattle.facts.specs.declared.domain.source.Source.{Source}
use Rattle.facts.specs.declared.domain.source.Source.TheVariants as source
use Rattle.facts.specs.declared.domain.span.Span.{Span}
use Rattle.table_check.specs.Tables.{Table}
use Rattle.table_check.specs.text.Lines.{Words, register_names, counter_names, name_at}
use Rattle.table_check.specs.text.Lines.{values_below}
use Rattle.table_check.specs.text.Lines.{byte_words, rail_words, source_words, page_words}
use Rattle.table_check.specs.text.Lines.{protect_words}
use Rattle.table_check.specs.text.Lines.{register_words, counter_words, ticks_words}
use Rattle.table_check.specs.text.Lines.{each_at, place_lines, lines_from, line_of, lost_words}
use Rattle.table_check.specs.text.Lines.{lost_lines, factors, words_of_table}
use Rattle.table_check.specs.text.Texts.{CanBeSaid}
use Rattle.table_check.specs.declared.text.version.Version.{Version}
use Rattle.table_check.specs.declared.text.version.Version.TheVariants.{First, Second}
use Rattle.table_check.specs.text.Writable.{IsWordSpan, IsTypedRow, IsWritable}
use Rattle.table_check.specs.text.Passes.{parted}
use Rattle.table_check.proofs.Texts.SetWords.{members_in}
use Rattle.table_check.proofs.Texts.SpelledRows.{IsKnown}
use Rattle.table_check.proofs.Texts.PartLines.{each_push}
use Rattle.table_check.proofs.Texts.Stands.{IsGoodRow, GoodPlace}
use Rattle.table_check.proofs.Texts.TableRuns.{good_places, each_known, pairs}

abbrev HasDigits : List ℕ → Type 0
HasDigits text = list_all is_ascii_digit text ≡ true

own : IsNumeralModel HasDigits (digits_value 10)
own = numerals_by_value HasDigits (search rules)

all_pass : {X : Type 0} (p q : X → Bool) → ((b : X) → p b ≡ true → q b ≡ true) → (xs : List X)
    → list_all p xs ≡ true → list_all q xs ≡ true
all_pass p q f xs t =
    list_all-from_AllPass q xs
    (All-weaker (λ b. p b ≡ true) (λ b. q b ≡ true) f xs (AllPass-from_list_all p xs t))

abbrev pub AreWords : Words → Type 0
AreWords words = list_all is_word words ≡ true

word_digit : (b : ℕ) → is_ascii_digit b ≡ true → is_word_byte b ≡ true
word_digit b t = grind (arith, nat_tests)

decimal_word : (n : ℕ) → n < 2 ^ 64 → is_word (decimal n) ≡ true
decimal_word n less =
    and_from _ _ (lt-ltb 0 (length (decimal n)) (decimal_nonempty n less))
    (all_pass is_ascii_digit is_word_byte word_digit (decimal n) (digits_decimal own n less))

name_byte : (b : ℕ) → is_name_byte b ≡ true → is_word_byte b ≡ true
name_byte b t = grind (arith, nat_tests)

name_word : (name : List ℕ) → is_name name ≡ true → is_word name ≡ true
name_word name t =
    let front = and_parts (nat_lt 0 (length name)) _ (and_parts _ _ t).0 in
    let bytes = (and_parts _ (list_all is_name_byte name) (and_parts _ _ t).1).1 in
    and_from _ _ front.0 (all_pass is_name_byte is_word_byte name_byte name bytes)

names_are_words : (names : Words) → AllPass is_name names → AreWords names
names_are_words names good =
    list_all-from_AllPass is_word names
    (All-weaker (λ name. is_name name ≡ true) (λ name. is_word name ≡ true) name_word names good)

name_at_word : (names : Words) (i : ℕ) → AreWords names → i < length names
    → is_word (name_at names i) ≡ true
name_at_word [] i all less = absurd (omega (arith, less))
name_at_word (name ∷ names) zero all less =
    (and_parts (is_word name) (list_all is_word names) all).0
name_at_word (name ∷ names) (suc i) all less =
    name_at_word names i (and_parts (is_word name) (list_all is_word names) all).1
    (omega (arith, less))

digit_byte : (n : ℕ) → is_word_byte (digit_of n) ≡ true
digit_byte n = grind (arith, nat_tests)

pairs_are_words : (values : List ℕ) → AreWords (map pair_text values)
pairs_are_words [] = refl
pairs_are_words (v ∷ values) =
    and_from _ _ (and_from _ _ (digit_byte (v / 16)) (and_from _ _ (digit_byte (v % 16)) refl))
    (pairs_are_words values)

bytes_are_words : (set : Set) → AreWords (byte_words set)
bytes_are_words set = pairs_are_words (values_below 256 set)

listed_are_words : (names : Words) (values : List ℕ) → AreWords names
    → AllByRecursion (λ v. v < length names) values → AreWords (map (name_at names) values)
listed_are_words names [] all few = refl
listed_are_words names (v ∷ values) all few =
    and_from _ _ (name_at_word names v all few.0) (listed_are_words names values all few.1)

rails_are_words : (b : Board) (set : Set) → IsBoard b → AreWords (rail_words b set)
unfolding values_below
rails_are_words b set board =
    let same = board.rail_names in
    listed_are_words b.rail_names (filter set (range_with_len 0 (length b.rails)))
    (names_are_words b.rail_names board.good_rail_names)
    (members_in set (λ v. v < length b.rail_names) (length b.rails) 0 (length b.rails)
    (omega arith) (λ v lt t. omega (arith, lt, same)))

rail_word : (b : Board) (d : ℕ) → IsBoard b → d < length b.rails
    → is_word (name_at b.rail_names d) ≡ true
rail_word b d board less =
    let same = board.rail_names in
    name_at_word b.rail_names d (names_are_words b.rail_names board.good_rail_names)
    (omega (arith, less, same))

target_word : (b : Board) (d : ℕ) → IsBoard b → d < length b.targets
    → is_word (name_at b.target_names d) ≡ true
target_word b d board less =
    let same = board.target_names in
    name_at_word b.target_names d (names_are_words b.target_names board.good_target_names)
    (omega (arith, less, same))

source_are_words : (b : Board) (from : Source) → IsBoard b → IsSource b from
    → AreWords (source_words b from)
source_are_words b source.None board good = refl
source_are_words b (source.Status d) board good = and_from _ _ (rail_word b d board good) refl
source_are_words b (source.Page i) board good = and_from _ _ (target_word b i board good) refl
source_are_words b (source.Protect i) board good = and_from _ _ (target_word b i board good) refl

numbers_are_words : (ns : List ℕ) → AllByRecursion (λ k. k < 2 ^ 64) ns
    → AreWords (map decimal ns)
numbers_are_words [] all = refl
numbers_are_words (n ∷ ns) all =
    and_from _ _ (decimal_word n all.0) (numbers_are_words ns all.1)

-- ---- the lines of a row

-- at least one word
abbrev pub IsLine : Words → Type 0
IsLine [] = ⊥
IsLine (word ∷ words) = AreWords (word ∷ words)

each_line : {X : Type 0} (words : ℕ → X → Words) (Good : X → Type 0) (count : ℕ)
    → ((i : ℕ) (x : X) → i < count → Good x → IsLine (words i x)) → (i : ℕ) (xs : List X)
    → i + length xs ≤ count → AllByRecursion Good xs → AllByRecursion IsLine (each_at words i xs)
each_line words Good count one i [] few all = tt
each_line words Good count one i (x ∷ xs) few all = (
  one i x (omega (arith, few)) all.0,
  each_line words Good count one (i + 1) xs (omega (arith, few)) all.1,
)

joined_each : (xs ys : List Words) → AllByRecursion IsLine xs → AllByRecursion IsLine ys
    → AllByRecursion IsLine (xs ++ ys)
joined_each [] ys p q = q
joined_each (x ∷ xs) ys p q = (p.0, joined_each xs ys p.1 q)

page_is_line : (b : Board) (i : ℕ) (S : Set) → IsBoard b → i < length b.targets
    → IsLine (page_words b i S)
page_is_line b i S board less = and_from _ _ (target_word b i board less) (bytes_are_words S)

protect_is_line : (b : Board) (i : ℕ) (S : Set) → IsBoard b → i < length b.targets
    → IsLine (protect_words b i S)
protect_is_line b i S board less = and_from _ _ (target_word b i board less) (bytes_are_words S)

register_is_line : (b : Board) (i : ℕ) (known : Span × Source) → IsBoard b → i < 8
    → IsKnown b known → IsLine (register_words b i known)
register_is_line b i known board less good =
    and_from _ _ (name_at_word register_names i refl (omega (arith, less)))
    (and_from _ _ (decimal_word known.0.lo (let h = good.0.0 in omega (arith, h)))
    (and_from _ _ (decimal_word known.0.hi (let h = good.0.1 in omega (arith, h)))
    (source_are_words b known.1 board good.1)))

counter_is_line : (i : ℕ) (span : Span) → i < 4 → IsWordSpan span → IsLine (counter_words i span)
counter_is_line i span less good =
    and_from _ _ (name_at_word counter_names i refl (omega (arith, less)))
    (and_from _ _ (decimal_word span.lo (let h = good.0 in omega (arith, h)))
    (and_from _ _ (decimal_word span.hi (let h = good.1 in omega (arith, h))) refl))

ticks_is_line : (base : ℕ) (ks : List ℕ) → base < 2 ^ 64 → AllByRecursion (λ k. k < 2 ^ 64) ks
    → IsLine (ticks_words base ks)
ticks_is_line base ks less all = and_from _ _ (decimal_word base less) (numbers_are_words ks all)

lost_is_line : (span : Span) → IsWordSpan span → IsLine (lost_words span)
lost_is_line span good =
    and_from _ _ (decimal_word span.lo (let h = good.0 in omega (arith, h)))
    (and_from _ _ (decimal_word span.hi (let h = good.1 in omega (arith, h))) refl)

all_long : (v : Version) (ks : List ℕ) (k : ℕ) → AllByRecursion (λ k. k < 2 ^ 64) ks → k < 2 ^ 64
    → AllByRecursion (λ k. k < 2 ^ 64) (factors v ks k)
all_long First ks k all less = all
all_long Second ks k all less = each_push (λ k. k < 2 ^ 64) ks k all less

last_are_lines : (v : Version) (r : Row) → IsTypedRow r
    → AllByRecursion IsLine (lost_lines v r
    ++ ticks_words r.base (factors v r.coeffs r.lost_coeff) ∷ [])
last_are_lines v r typed =
    by v (ticks_is_line r.base (factors v r.coeffs r.lost_coeff) typed.base
    (all_long v r.coeffs r.lost_coeff (recursion_from_All (λ k. k < 2 ^ 64) r.coeffs typed.coeffs)
    typed.lost_coeff))
  where
    by : (v : Version) → IsLine (ticks_words r.base (factors v r.coeffs r.lost_coeff))
        → AllByRecursion IsLine (lost_lines v r
        ++ ticks_words r.base (factors v r.coeffs r.lost_coeff) ∷ [])
    by First ticks = (ticks, tt)
    by Second ticks = (lost_is_line r.lost typed.lost, (ticks, tt))

row_are_lines : (v : Version) (b : Board) (n : ℕ) (r : Row) → IsBoard b → n < 2 ^ 64
    → IsGoodRow v b r → AllByRecursion IsLine (place_lines v b n (Some r))
row_are_lines v b n r board less good =
    let pages = good.0.page_sets in
    let protects = good.0.protect_sets in
    let regs = good.0.reg_count in
    let sources = good.0.source_count in
    let counters = good.0.counter_count in
    let known = each_known b r.regs r.sources (recursion_from_All IsWordSpan r.regs good.1.regs)
    (recursion_from_All (IsSource b) r.sources good.0.sources) in
    let count = pairs r.regs r.sources (omega (arith, regs, sources)) in (
      and_from _ _ (decimal_word n less) refl,
      joined_each _ _ (each_line (page_words b) HasValue (length b.targets)
          (λ i S few h. page_is_line b i S board few) 0 r.pages (omega (arith, pages))
          (recursion_from_All HasValue r.pages good.0.pages))
          (joined_each _ _ (each_line (protect_words b) HasValue (length b.targets)
          (λ i S few h. protect_is_line b i S board few) 0 r.protects (omega (arith, protects))
          (recursion_from_All HasValue r.protects good.0.protects)) (
            rails_are_words b r.good board,
            joined_each _ _ (each_line (register_words b) (IsKnown b) 8
                (λ i k few h. register_is_line b i k board few h) 0 (zip r.regs r.sources)
                (omega (arith, count, regs)) known)
                (joined_each _ _ (each_line counter_words IsWordSpan 4 counter_is_line 0 r.counters
                (omega (arith, counters))
                (recursion_from_All IsWordSpan r.counters good.1.counters))
                (last_are_lines v r good.1)),
          )),
    )

rows_are_lines : (v : Version) (b : Board) (rows : Table) (n : ℕ) → IsBoard b
    → n + length rows < 2 ^ 64
    → AllByRecursion (GoodPlace v b) rows → AllByRecursion IsLine (lines_from v b n rows)
rows_are_lines v b [] n board few all = tt
rows_are_lines v b (None ∷ rows) n board few all = (
  and_from _ _ (decimal_word n (omega (arith, few))) refl,
  rows_are_lines v b rows (n + 1) board (omega (arith, few)) all.1,
)
rows_are_lines v b (Some r ∷ rows) n board few all =
    joined_each (place_lines v b n (Some r)) (lines_from v b (n + 1) rows)
    (row_are_lines v b n r board (omega (arith, few)) all.0)
    (rows_are_lines v b rows (n + 1) board (omega (arith, few)) all.1)

pub places_are_lines : (v : Version) (b : Board) (t : Table) → IsBoard b → IsWritable b t
    → CanBeSaid v b t → AllByRecursion IsLine (lines_from v b 0 t)
places_are_lines v b t board w said =
    let few = w.1.few in
    rows_are_lines v b t 0 board (omega (arith, few)) (good_places v b t w said)

pub table_are_lines : (v : Version) (b : Board) (t : Table) → IsBoard b → IsWritable b t
    → CanBeSaid v b t → AllByRecursion IsLine (words_of_table v b t)
table_are_lines v b t board w said = by v (places_are_lines v b t board w said)
  where
    by : (v : Version) → AllByRecursion IsLine (lines_from v b 0 t)
        → AllByRecursion IsLine (words_of_table v b t)
    by First rows = rows
    by Second rows = (refl, rows)

-- ---- lines and their words

no_space : (b : ℕ) → is_word_byte b ≡ true → (b == 32) ≡ false
no_space b t = grind (arith, nat_tests)

spaceless : (word : List ℕ) → is_word word ≡ true → All (λ b. (b == 32) ≡ false) word
spaceless word t =
    All-weaker (λ b. is_word_byte b ≡ true) (λ b. (b == 32) ≡ false) no_space word
    (AllPass-from_list_all is_word_byte word (and_parts (is_nonempty word) _ t).1)

parts_of : (word : List ℕ) (words : Words) → AreWords (word ∷ words)
    → parted (line_of (word ∷ words)) ≡ word ∷ words
parts_of word [] t =
    slice_split_none (λ b. b == 32) word (spaceless word (and_parts (is_word word) true t).0)
parts_of word (next ∷ words) t =
    let own = and_parts (is_word word) (list_all is_word (next ∷ words)) t in
    slice_split_at (λ b. b == 32) word 32 (line_of (next ∷ words)) (spaceless word own.0) refl
    ∙ ap (λ ws. word ∷ ws) (parts_of next words own.1)

line_back : (ws : Words) → IsLine ws → parted (line_of ws) ≡ ws
line_back [] l = absurd l
line_back (word ∷ words) l = parts_of word words l

pub lines_back : (wss : List Words) → AllByRecursion IsLine wss
    → map parted (map line_of wss) ≡ wss
lines_back [] all = refl
lines_back (ws ∷ wss) all =
    ap (λ (w : Words). w ∷ map parted (map line_of wss)) (line_back ws all.0)
    ∙ ap (λ (ls : List Words). ws ∷ ls) (lines_back wss all.1)

pub lines_whole : (lines : List (List ℕ)) → map line_of (map parted lines) ≡ lines
lines_whole [] = refl
lines_whole (l ∷ lines) =
    ap (λ (x : List ℕ). x ∷ map line_of (map parted lines)) (join_with_byte-slice_split 32 l)
    ∙ ap (λ (ls : List (List ℕ)). l ∷ ls) (lines_whole lines)
