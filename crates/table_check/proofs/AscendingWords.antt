-- What a word more changes in the values of words that ascend, and where they end.
use Rattle.std.proofs.Common.{◌≡◌, ◌+◌, ◌≤◌, ◌<◌, ◌++◌, ◌∷◌, ◌∙◌, [], ℕ, List, length, map, drop}
use Rattle.std.proofs.Common.{Option, Some, None, slice_index_or, refl, sym}
use Rattle.std.proofs.lemmas.Bool.{le-ltb, lt-ltb}
use Rattle.std.proofs.lemmas.List.{at_drop_more, at_drop_all}
use Rattle.table_check.specs.text.Saying.{ascending}

-- a word with a value that isn't too small, before others
one_more : (value_of : List ℕ → Option ℕ) (done : List ℕ) (least value : ℕ) (word : List ℕ)
    (words : List (List ℕ)) → value_of word ≡ Some value → least ≤ value
    → ascending value_of (done ++ value ∷ []) (value + 1) words
    ≡ ascending value_of done least (word ∷ words)
one_more value_of done least value word words is le = rw (is, le-ltb value least le) refl

-- a word with no value, before others
no_value : (value_of : List ℕ → Option ℕ) (done : List ℕ) (least : ℕ) (word : List ℕ)
    (words : List (List ℕ)) → value_of word ≡ None
    → None ≡ ascending value_of done least (word ∷ words)
no_value value_of done least word words is = rw is refl

-- a word with a value that is too small, before others
too_small : (value_of : List ℕ → Option ℕ) (done : List ℕ) (least value : ℕ) (word : List ℕ)
    (words : List (List ℕ)) → value_of word ≡ Some value → value < least
    → None ≡ ascending value_of done least (word ∷ words)
too_small value_of done least value word words is lt = rw (is, lt-ltb value least lt) refl

-- the next word has a value that isn't too small
pub one_more_left : {X : Type 0} (xs : List X) (i : ℕ) (x : X) (word_of : X → List ℕ)
    (value_of : List ℕ → Option ℕ) (done : List ℕ) (least value : ℕ)
    → i < length xs → value_of (word_of (slice_index_or xs i x)) ≡ Some value → least ≤ value
    → ascending value_of (done ++ value ∷ []) (value + 1) (map word_of (drop (i + 1) xs))
    ≡ ascending value_of done least (map word_of (drop i xs))
one_more_left xs i x word_of value_of done least value lt is le =
    one_more value_of done least value (word_of (slice_index_or xs i x))
    (map word_of (drop (i + 1) xs)) is le
    ∙ sym (at_drop_more (λ l. ascending value_of done least (map word_of l)) xs i x lt)

-- the next word has no value
pub no_value_left : {X : Type 0} (xs : List X) (i : ℕ) (x : X) (word_of : X → List ℕ)
    (value_of : List ℕ → Option ℕ) (done : List ℕ) (least : ℕ)
    → i < length xs → value_of (word_of (slice_index_or xs i x)) ≡ None
    → None ≡ ascending value_of done least (map word_of (drop i xs))
no_value_left xs i x word_of value_of done least lt is =
    no_value value_of done least (word_of (slice_index_or xs i x)) (map word_of (drop (i + 1) xs))
    is
    ∙ sym (at_drop_more (λ l. ascending value_of done least (map word_of l)) xs i x lt)

-- the next word has a value that is too small
pub too_small_left : {X : Type 0} (xs : List X) (i : ℕ) (x : X) (word_of : X → List ℕ)
    (value_of : List ℕ → Option ℕ) (done : List ℕ) (least value : ℕ)
    → i < length xs → value_of (word_of (slice_index_or xs i x)) ≡ Some value → value < least
    → None ≡ ascending value_of done least (map word_of (drop i xs))
too_small_left xs i x word_of value_of done least value lt is small =
    too_small value_of done least value (word_of (slice_index_or xs i x))
    (map word_of (drop (i + 1) xs)) is small
    ∙ sym (at_drop_more (λ l. ascending value_of done least (map word_of l)) xs i x lt)

-- no word is left
pub none_left : {X : Type 0} (xs : List X) (i : ℕ) (word_of : X → List ℕ)
    (value_of : List ℕ → Option ℕ) (done : List ℕ) (least : ℕ)
    → length xs ≤ i → Some done ≡ ascending value_of done least (map word_of (drop i xs))
none_left xs i word_of value_of done least le =
    sym (at_drop_all (λ l. ascending value_of done least (map word_of l)) xs i le)
