-- The words of a line are read as what they are written for, and only those are.
use Rattle.std.proofs.Common.{◌≡◌, ◌≢◌, ℕ, zero, suc, ◌<◌, ◌≤◌, ◌^◌, ◌==◌, Bool, true, false, List}
use Rattle.std.proofs.Common.{[], ◌∷◌, length, map, get_or, slice_get, Some, option_map}
use Rattle.std.proofs.Common.{option_and_then, IfSome, IsTrue, codes, filter, refl}
use Rattle.std.proofs.Common.{sym, ap, ◌∙◌, arith, lit<, nat_lt}
use Rattle.std.specs.List.{AllPairs, position_or_len, range_with_len}
use Rattle.std.specs.Str.{bytes_eq}
use Rattle.std.specs.Fmt.{decimal}
use Rattle.std.proofs.lemmas.Bool.{ltb-true}
use Rattle.std.proofs.lemmas.Bool.Decides.{nat_tests}
use Rattle.std.proofs.lemmas.List.Sums.{passes_at_first}
use Rattle.texts.specs.Hex.{pair_of, pair_text}
use Rattle.board.specs.Boards.{Board, place_of_name}
use Rattle.board.specs.Valid.{IsBoard}
use Rattle.facts.specs.domain.Sets.{Set, is_rail, HasValue}
use Rattle.facts.specs.declared.domain.span.Span.{Span}
use Rattle.table_check.specs.text.Lines.{Words, name_at, values_below}
use Rattle.table_check.specs.text.Lines.{byte_words, set_words, rail_words, good_words}
use Rattle.table_check.specs.text.Writable.{IsWordSpan}
use Rattle.table_check.specs.text.Saying.{after_key, after_name, rail_named, byte_set, rail_set}
use Rattle.table_check.specs.text.Saying.{some_bytes, set_said, good_said, word_of, number_of}
use Rattle.table_check.specs.text.Saying.{span_of}
use Rattle.table_check.proofs.Texts.Known.{KnownOfNumbers}
use Rattle.table_check.proofs.Texts.Options.{none_some, same_some, from_then, from_map, from_if}
use Rattle.table_check.proofs.Texts.Options.{from_else}
use Rattle.table_check.proofs.Texts.SetWords.{EachIs, AreSpelled, IsIn, has, set_only, set_back}
use Rattle.table_check.proofs.Texts.Names.{bytes_eq-same, same_text, name_at_place}
use Rattle.table_check.proofs.Texts.SetWords.{members_in}
use Rattle.table_check.proofs.Texts.SetWords.{member}

-- ---- keys and names

pub key_only : (key : List ℕ) (ws rest : Words) → after_key key ws ≡ Some rest → ws ≡ key ∷ rest
key_only key [] rest e = absurd (none_some rest e)
key_only key (w ∷ ws) rest e =
    let q = from_if (bytes_eq w key) (Some ws) rest e in
    ap (λ (x : List ℕ). x ∷ ws) (same_text w key q.0)
    ∙ ap (λ (xs : Words). key ∷ xs) (same_some ws rest q.1)

pub key_back : (key : List ℕ) (rest : Words) → after_key key (key ∷ rest) ≡ Some rest
key_back key rest = rw (bytes_eq-same key) refl

pub name_only : (key name : List ℕ) (ws rest : Words) → after_name key name ws ≡ Some rest
    → ws ≡ key ∷ name ∷ rest
name_only key name ws rest e =
    let q = from_then (after_key name) (after_key key ws) rest e in
    key_only key ws q.value q.there
    ∙ ap (λ (xs : Words). key ∷ xs) (key_only name q.value rest q.gives)

pub name_back : (key name : List ℕ) (rest : Words)
    → after_name key name (key ∷ name ∷ rest) ≡ Some rest
name_back key name rest =
    ap (option_and_then (after_key name)) (key_back key (name ∷ rest)) ∙ key_back name rest

pub at_only : (names : Words) (i : ℕ) (name : List ℕ) → slice_get names i ≡ Some name
    → (name ≡ name_at names i) × (i < length names)
at_only [] zero name e = absurd (none_some name e)
at_only [] (suc i) name e = absurd (none_some name e)
at_only (n ∷ names) zero name e = (sym (same_some n name e), omega arith)
at_only (n ∷ names) (suc i) name e =
    let q = at_only names i name e in (q.0, omega (arith, q.1))

pub at_back : (names : Words) (i : ℕ) → i < length names
    → slice_get names i ≡ Some (name_at names i)
at_back [] i less = absurd (omega (arith, less))
at_back (name ∷ names) zero less = refl
at_back (name ∷ names) (suc i) less = at_back names i (omega (arith, less))

name_is : (names : Words) (i : ℕ) → i < length names → name_at names i ≡ get_or names i []
name_is [] i less = absurd (omega (arith, less))
name_is (name ∷ names) zero less = refl
name_is (name ∷ names) (suc i) less = name_is names i (omega (arith, less))

pub place_only : (names : Words) (name : List ℕ) (i : ℕ) → place_of_name name names ≡ Some i
    → (name ≡ name_at names i) × (i < length names)
place_only names name i e =
    let at : ℕ = position_or_len (bytes_eq name) names in
    let q = from_if (nat_lt at (length names)) (Some at) i e in
    let less : at < length names = ltb-true at (length names) q.0 in
    let same : at ≡ i = same_some at i q.1 in
    let here : name ≡ get_or names at [] =
    same_text name (get_or names at []) (passes_at_first (bytes_eq name) names [] less) in
    (here ∙ sym (name_is names at less) ∙ ap (name_at names) same, omega (arith, less, same))

pub place_back : (names : Words) (i : ℕ) → i < length names → AllPairs (λ m n. m ≢ n) names
    → place_of_name (name_at names i) names ≡ Some i
place_back names i less apart =
    ap (λ name. place_of_name name names) (name_is names i less) ∙ name_at_place names i less apart

-- ---- sets

abbrev pub IsByteSet : (ℕ → Bool) → Set → Type 0
IsByteSet is_value S = HasValue S × IsIn is_value 256 S

pair_spelled : KnownOfNumbers → AreSpelled pair_of pair_text 256
pair_spelled laws w v e =
    let h : IfSome (Some v) (λ b. (b < 256) × (w ≡ pair_text b)) = rw e at (laws.pair_spelled w) in
    (h.1, h.0)

some_listed : (word : ℕ → List ℕ) (S : Set) (most : ℕ)
    → (length (map word (values_below most S)) == 0) ≡ false → HasValue S
unfolding HasValue values_below
some_listed word S most f =
    head (filter S (range_with_len 0 most))
    (members_in S (λ v. IsTrue (S v)) most 0 most (omega arith) (λ v lt t. t)) f
  where
    head : (vs : List ℕ) → EachIs (λ v. IsTrue (S v)) vs → (length (map word vs) == 0) ≡ false
        → (v : ℕ) × IsTrue (S v)
    head [] all f = absurd cc
    head (v ∷ vs) all f = (v, all.0)

listed_some : (word : ℕ → List ℕ) (S : Set) (most : ℕ) → HasValue S
    → ((v : ℕ) → IsTrue (S v) → v < most) → (length (map word (values_below most S)) == 0) ≡ false
unfolding HasValue values_below
listed_some word S most some below =
    nonempty (filter S (range_with_len 0 most))
    (member S most 0 most some.0 (omega arith) (omega arith) (below some.0 some.1) ∙ some.1)
  where
    nonempty : (vs : List ℕ) → has vs some.0 ≡ true → (length (map word vs) == 0) ≡ false
    nonempty [] t = absurd cc
    nonempty (v ∷ vs) t = grind (arith, nat_tests)

bytes_only : KnownOfNumbers → (is_value : ℕ → Bool) (ws : Words) (S : Set)
    → some_bytes is_value ws ≡ Some S
    → (ws ≡ byte_words S) × IsByteSet is_value S
unfolding byte_set
bytes_only laws is_value ws S e =
    let q = from_else (length ws == 0) (byte_set is_value ws) S e in
    let r = set_only pair_of pair_text is_value 256 (pair_spelled laws) ws S q.1 in
    (r.0, (some_listed pair_text S 256 (rw r.0 at q.0), r.1))

bytes_back : KnownOfNumbers → (is_value : ℕ → Bool) (S : Set) → IsByteSet is_value S
    → some_bytes is_value (byte_words S) ≡ Some S
unfolding byte_set
bytes_back laws is_value S good =
    rw (listed_some pair_text S 256 good.0 (λ v t. (good.1 v t).0))
    (set_back pair_of pair_text is_value 256 laws.pair S good.1)

pub set_line_only : KnownOfNumbers → (is_value : ℕ → Bool) (key : List ℕ) (b : Board) (i : ℕ)
    (ws : Words) (S : Set) → set_said is_value key b i ws ≡ Some S
    → (ws ≡ set_words key b i S) × IsByteSet is_value S
unfolding set_said
set_line_only laws is_value key b i ws S e =
    let q = from_then (λ name. option_and_then (some_bytes is_value) (after_name key name ws))
    (slice_get b.target_names i) S e in
    let n = at_only b.target_names i q.value q.there in
    let r = from_then (some_bytes is_value) (after_name key q.value ws) S q.gives in
    let p = bytes_only laws is_value r.value S r.gives in (
      name_only key q.value ws r.value r.there
          ∙ ap (λ name. key ∷ name ∷ r.value) n.0
          ∙ ap (λ vs. key ∷ name_at b.target_names i ∷ vs) p.0,
      p.1,
    )

pub set_line_back : KnownOfNumbers → (is_value : ℕ → Bool) (key : List ℕ) (b : Board) (i : ℕ)
    (S : Set) → i < length b.target_names → IsByteSet is_value S
    → set_said is_value key b i (set_words key b i S) ≡ Some S
unfolding set_said
set_line_back laws is_value key b i S less good =
    rw (at_back b.target_names i less)
    (ap (option_and_then (some_bytes is_value))
    (name_back key (name_at b.target_names i) (byte_words S)) ∙ bytes_back laws is_value S good)

-- rails of the board, of at most 64
abbrev pub AreRails : Board → Set → Type 0
AreRails b S = IsIn is_rail (length b.rails) S

rail_spelled : (b : Board) → length b.rail_names ≡ length b.rails
    → AreSpelled (rail_named b) (name_at b.rail_names) (length b.rails)
unfolding rail_named
rail_spelled b same w v e =
    let q = place_only b.rail_names w v e in (q.0, omega (arith, q.1, same))

pub good_only : (b : Board) (ws : Words) (S : Set) → IsBoard b → good_said b ws ≡ Some S
    → (ws ≡ good_words b S) × AreRails b S
unfolding good_said rail_set
good_only b ws S board e =
    let q = from_then (rail_set b) (after_key (codes "good") ws) S e in
    let r = set_only (rail_named b) (name_at b.rail_names) is_rail (length b.rails)
    (rail_spelled b board.rail_names) q.value S q.gives in (
      key_only (codes "good") ws q.value q.there ∙ ap (λ vs. codes "good" ∷ vs) r.0,
      r.1,
    )

pub rail_back : (b : Board) (v : ℕ) → IsBoard b → v < length b.rails
    → rail_named b (name_at b.rail_names v) ≡ Some v
unfolding rail_named
rail_back b v board less =
    let same = board.rail_names in
    place_back b.rail_names v (omega (arith, less, same)) board.apart_rail_names

pub good_back : (b : Board) (S : Set) → IsBoard b → AreRails b S
    → good_said b (good_words b S) ≡ Some S
unfolding good_said rail_set
good_back b S board good =
    ap (option_and_then (rail_set b)) (key_back (codes "good") (rail_words b S))
    ∙ set_back (rail_named b) (name_at b.rail_names) is_rail (length b.rails)
    (λ v less. rail_back b v board less) S good

-- ---- numbers

word_only : KnownOfNumbers → (text : List ℕ) (n : ℕ) → word_of text ≡ Some n
    → (text ≡ decimal n) × (n < 65536)
word_only laws text n e =
    let h : IfSome (Some n) (λ n. (n ≤ 65535) × (text ≡ decimal n)) =
    rw e at (laws.decimal_spelled 65535 text (lit< tt)) in
    (h.1, omega (arith, h.0))

word_back : KnownOfNumbers → (n : ℕ) → n < 65536 → word_of (decimal n) ≡ Some n
word_back laws n less = laws.decimal 65535 n (omega (arith, less)) (lit< tt)

pub number_only : KnownOfNumbers → (text : List ℕ) (n : ℕ) → number_of text ≡ Some n
    → (text ≡ decimal n) × (n < 2 ^ 64)
number_only laws text n e =
    let h : IfSome (Some n) (λ n. (n ≤ 18446744073709551615) × (text ≡ decimal n)) =
    rw e at (laws.decimal_spelled 18446744073709551615 text (lit< tt)) in
    (h.1, omega (arith, h.0))

pub number_back : KnownOfNumbers → (n : ℕ) → n < 2 ^ 64 → number_of (decimal n) ≡ Some n
number_back laws n less = laws.decimal 18446744073709551615 n (omega (arith, less)) (lit< tt)

pub span_only : KnownOfNumbers → (lo hi : List ℕ) (s : Span) → span_of lo hi ≡ Some s
    → (lo ≡ decimal s.lo) × (hi ≡ decimal s.hi) × IsWordSpan s
unfolding span_of
span_only laws lo hi s e =
    let q = from_then (λ l. option_map (λ h. record { lo = l; hi = h }) (word_of hi)) (word_of lo)
    s e in
    let r = from_map (λ h. record { lo = q.value; hi = h }) (word_of hi) s q.gives in
    let l = word_only laws lo q.value q.there in
    let h = word_only laws hi r.value r.there in (
      l.0 ∙ ap (λ (t : Span). decimal t.lo) r.is,
      h.0 ∙ ap (λ (t : Span). decimal t.hi) r.is,
      rw (← r.is) (l.1, h.1),
    )

pub span_back : KnownOfNumbers → (s : Span) → IsWordSpan s
    → span_of (decimal s.lo) (decimal s.hi) ≡ Some s
unfolding span_of
span_back laws s good = rw (word_back laws s.lo good.0, word_back laws s.hi good.1) refl
