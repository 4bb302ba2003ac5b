-- What is joined by a byte is cut there again.
use Rattle.std.proofs.Common.{◌≡◌, ◌≤◌, ◌<◌, ℕ, ◌+◌, suc, Bool, true, false, ◌&&◌, ◌==◌, nat_lt}
use Rattle.std.proofs.Common.{List, [], ◌∷◌, ◌++◌, length, take, drop, filter, All, Some, None}
use Rattle.std.proofs.Common.{refl}
use Rattle.std.proofs.Common.{if◌then◌else◌, ap, ◌∙◌, arith}
use Rattle.std.specs.List.{list_all, slice_split, join_with_byte, position_or_len}
use Rattle.std.proofs.Math.Seq.{take-append_seam, drop-append-add}
use Rattle.std.proofs.lemmas.Bool.{and_parts, and_from, eq-eqb, lt-ltb}
use Rattle.std.proofs.lemmas.Bool.Decides.{nat_tests}
use Rattle.std.proofs.lemmas.List.{length-append}
use Rattle.std.proofs.lemmas.List.Elements.{All-weaker, All-head, All-tail}
use Rattle.std.proofs.lemmas.List.Folds.{list_all-append}
use Rattle.std.proofs.lemmas.List.Sums.{AllPass-from_list_all, list_all-from_AllPass}
use Rattle.std.proofs.lemmas.List.Splits.{slice_split_none, slice_split_at}
use Rattle.texts.specs.Words.{is_nonempty, words_of}
use Rattle.bundles.specs.Fields.{cut_at}

-- ---- bytes that are greater than one

abbrev pub are_above : ℕ → List ℕ → Bool
are_above low text = list_all (λ b. nat_lt low b) text

pub weaker : {X : Type 0} (p q : X → Bool) → ((x : X) → p x ≡ true → q x ≡ true) → (xs : List X)
    → list_all p xs ≡ true → list_all q xs ≡ true
weaker p q f xs t =
    list_all-from_AllPass q xs
    (All-weaker (λ x. p x ≡ true) (λ x. q x ≡ true) f xs (AllPass-from_list_all p xs t))

above_less : (low high b : ℕ) → low ≤ high → nat_lt high b ≡ true → nat_lt low b ≡ true
above_less low high b le t = grind (arith, nat_tests)

pub all_above_less : (low high : ℕ) → low ≤ high → (text : List ℕ) → are_above high text ≡ true
    → are_above low text ≡ true
all_above_less low high le text t =
    weaker (λ b. nat_lt high b) (λ b. nat_lt low b) (λ b s. above_less low high b le s) text t

other : (low c b : ℕ) → c ≤ low → nat_lt low b ≡ true → (b == c) ≡ false
other low c b le t = grind (arith, nat_tests)

-- none of them is a byte that isn't greater
pub none_is : (low c : ℕ) → c ≤ low → (text : List ℕ) → are_above low text ≡ true
    → All (λ b. (b == c) ≡ false) text
none_is low c le text t =
    All-weaker (λ b. nat_lt low b ≡ true) (λ b. (b == c) ≡ false) (λ b s. other low c b le s) text
    (AllPass-from_list_all (λ b. nat_lt low b) text t)

itself : (c : ℕ) → (c == c) ≡ true
itself c = eq-eqb c c refl

-- ---- parts

pub parts_back : (low c : ℕ) → c ≤ low → (part : List ℕ) (parts : List (List ℕ))
    → list_all (are_above low) (part ∷ parts) ≡ true
    → slice_split (λ b. b == c) (join_with_byte c (part ∷ parts)) ≡ part ∷ parts
parts_back low c le part [] t =
    slice_split_none (λ b. b == c) part
    (none_is low c le part (and_parts (are_above low part) true t).0)
parts_back low c le part (next ∷ parts) t =
    let own = and_parts (are_above low part) (list_all (are_above low) (next ∷ parts)) t in
    slice_split_at (λ b. b == c) part c (join_with_byte c (next ∷ parts))
    (none_is low c le part own.0) (itself c)
    ∙ ap (λ (ps : List (List ℕ)). part ∷ ps) (parts_back low c le next parts own.1)

pub some_parts_back : (low c : ℕ) → c ≤ low → (parts : List (List ℕ)) → 0 < length parts
    → list_all (are_above low) parts ≡ true
    → slice_split (λ b. b == c) (join_with_byte c parts) ≡ parts
some_parts_back low c le [] some t = absurd (omega (arith, some))
some_parts_back low c le (part ∷ parts) some t = parts_back low c le part parts t

pub joined_above : (low c : ℕ) → nat_lt low c ≡ true → (parts : List (List ℕ))
    → list_all (are_above low) parts ≡ true → are_above low (join_with_byte c parts) ≡ true
joined_above low c t [] all = refl
joined_above low c t (part ∷ []) all = (and_parts (are_above low part) true all).0
joined_above low c t (part ∷ next ∷ parts) all =
    let own = and_parts (are_above low part) (list_all (are_above low) (next ∷ parts)) all in
    list_all-append (λ b. nat_lt low b) part (c ∷ join_with_byte c (next ∷ parts))
    ∙ and_from _ _ own.0 (and_from _ _ t (joined_above low c t (next ∷ parts) own.1))

-- ---- words

abbrev pub is_word : List ℕ → Bool
is_word word = is_nonempty word && are_above 37 word

word_above : (word : List ℕ) → is_word word ≡ true → are_above 37 word ≡ true
word_above word t = (and_parts (is_nonempty word) (are_above 37 word) t).1

pub words_above : (words : List (List ℕ)) → list_all is_word words ≡ true
    → list_all (are_above 37) words ≡ true
words_above words t = weaker is_word (are_above 37) word_above words t

all_kept : (words : List (List ℕ)) → list_all is_word words ≡ true
    → filter is_nonempty words ≡ words
all_kept [] t = refl
all_kept (word ∷ words) t =
    let own = and_parts (is_word word) (list_all is_word words) t in
    rw ((and_parts (is_nonempty word) _ own.0).0, all_kept words own.1) refl

pub words_back : (words : List (List ℕ)) → list_all is_word words ≡ true
    → words_of (join_with_byte 32 words) ≡ words
words_back [] t = refl
words_back (word ∷ words) t =
    ap (filter is_nonempty)
    (parts_back 37 32 (omega arith) word words (words_above (word ∷ words) t))
    ∙ all_kept (word ∷ words) t

-- ---- two sides

found : (c : ℕ) (before after : List ℕ) → All (λ b. (b == c) ≡ false) before
    → position_or_len (λ b. b == c) (before ++ c ∷ after) ≡ length before
found c [] after none = rw (itself c) refl
found c (b ∷ before) after none =
    let later = found c before after (All-tail (λ b. (b == c) ≡ false) b before none) in
    let one : 1 + position_or_len (λ b. b == c) (before ++ c ∷ after) ≡ suc (length before) =
    omega (arith, later) in
    rw (All-head (λ b. (b == c) ≡ false) b before none) one

within : (before : List ℕ) (c : ℕ) (after : List ℕ)
    → nat_lt (length before) (length (before ++ c ∷ after)) ≡ true
within before c after =
    lt-ltb (length before) (length (before ++ c ∷ after))
    (omega (arith, length-append before (c ∷ after)))

abbrev sides_at : ℕ → List ℕ → List ℕ × List ℕ
sides_at n text = (take n text, drop (n + 1) text)

pub sides_back : (c : ℕ) (before after : List ℕ) → All (λ b. (b == c) ≡ false) before
    → cut_at c (before ++ c ∷ after) ≡ Some (before, after)
sides_back c before after none =
    let text = before ++ c ∷ after in
    by (position_or_len (λ b. b == c) text) (found c before after none)
  where
    by : (n : ℕ) → n ≡ length before
        → (if nat_lt n (length (before ++ c ∷ after))
        then Some (sides_at n (before ++ c ∷ after)) else None)
        ≡ Some (before, after)
    by n e =
        rw (
          e,
          within before c after,
          take-append_seam before (c ∷ after),
          drop-append-add before (c ∷ after) 1,
        ) refl
