-- Words joined by spaces, and lines ended by LF, are cut there again.
use Rattle.std.proofs.Common.{◌≡◌, ℕ, ◌<◌, Bool, true, false, ◌||◌, nat_lt, ◌==◌, List}
use Rattle.std.proofs.Common.{[], ◌∷◌, ◌++◌, length, filter, take, refl, ap, ◌∙◌, All}
use Rattle.std.proofs.Common.{arith}
use Rattle.std.specs.List.{list_all, slice_split, join_with_byte, flat_map, position_or_len}
use Rattle.std.proofs.lemmas.Bool.{and_parts, and_from, lt-ltb, ltb-true}
use Rattle.std.proofs.lemmas.Bool.Decides.{nat_tests}
use Rattle.std.proofs.lemmas.List.{length-append}
use Rattle.std.proofs.lemmas.List.Elements.{All-weaker}
use Rattle.std.proofs.lemmas.List.Folds.{list_all-append}
use Rattle.std.proofs.lemmas.List.Sums.{AllPass-from_list_all, list_all-from_AllPass}
use Rattle.std.proofs.lemmas.List.Sums.{position_or_len_is}
use Rattle.std.proofs.lemmas.List.Splits.{slice_split_none, slice_split_at, length-slice_split}
use Rattle.std.proofs.Math.Seq.{take-length}
use Rattle.texts.specs.Words.{is_nonempty, words_of, without_empty_end, lines_by_feed}
use Rattle.texts.specs.Cuts.{without_comment}
use Rattle.seq_program.specs.JoinedWords.{is_word_byte, is_word, ended, LinesReadBack}

abbrev is_line_byte : ℕ → Bool
is_line_byte b = nat_lt 35 b || (b == 32)

pub word-cons : (b : ℕ) (rest : List ℕ) → list_all is_word_byte (b ∷ rest) ≡ true
    → is_word (b ∷ rest) ≡ true
word-cons b rest t = and_from _ _ (lt-ltb 0 (length (b ∷ rest)) (omega arith)) t

pub word-append : (word rest : List ℕ) → is_word word ≡ true → list_all is_word_byte rest ≡ true
    → is_word (word ++ rest) ≡ true
word-append word rest t s =
    let own = and_parts (is_nonempty word) (list_all is_word_byte word) t in
    let some : 0 < length (word ++ rest) =
    omega (arith, length-append word rest, ltb-true 0 (length word) own.0) in
    and_from _ _ (lt-ltb 0 (length (word ++ rest)) some)
    (list_all-append is_word_byte word rest ∙ and_from _ _ own.1 s)

-- what passes one test fails another
fails : (p q : ℕ → Bool) → ((b : ℕ) → p b ≡ true → q b ≡ false) → (xs : List ℕ)
    → list_all p xs ≡ true → All (λ b. q b ≡ false) xs
fails p q f xs t =
    All-weaker (λ b. p b ≡ true) (λ b. q b ≡ false) f xs (AllPass-from_list_all p xs t)

no_space : (b : ℕ) → is_word_byte b ≡ true → (b == 32) ≡ false
no_space b t = grind (arith, nat_tests)

no_comment : (b : ℕ) → is_line_byte b ≡ true → (b == 35) ≡ false
no_comment b t = grind (arith, nat_tests)

no_newline : (b : ℕ) → is_line_byte b ≡ true → (b == 10) ≡ false
no_newline b t = grind (arith, nat_tests)

in_line : (b : ℕ) → is_word_byte b ≡ true → is_line_byte b ≡ true
in_line b t = grind (arith, nat_tests)

-- the parts between spaces
parts_of : (word : List ℕ) (words : List (List ℕ)) → list_all is_word (word ∷ words) ≡ true
    → slice_split (λ b. b == 32) (join_with_byte 32 (word ∷ words)) ≡ word ∷ words
parts_of word [] t =
    let own = and_parts (is_word word) true t in
    slice_split_none (λ b. b == 32) word
    (fails is_word_byte (λ b. b == 32) no_space word (and_parts (is_nonempty word) _ own.0).1)
parts_of word (next ∷ words) t =
    let own = and_parts (is_word word) (list_all is_word (next ∷ words)) t in
    slice_split_at (λ b. b == 32) word 32 (join_with_byte 32 (next ∷ words))
    (fails is_word_byte (λ b. b == 32) no_space word (and_parts (is_nonempty word) _ own.0).1) refl
    ∙ ap (λ ws. word ∷ ws) (parts_of next words own.1)

all_kept : (words : List (List ℕ)) → list_all is_word words ≡ true
    → filter is_nonempty words ≡ words
all_kept [] t = refl
all_kept (word ∷ words) t =
    let own = and_parts (is_word word) (list_all is_word words) t in
    rw ((and_parts (is_nonempty word) _ own.0).0, all_kept words own.1) refl

joined_words : (words : List (List ℕ)) → list_all is_word words ≡ true
    → words_of (join_with_byte 32 words) ≡ words
joined_words [] t = refl
joined_words (word ∷ words) t =
    ap (filter is_nonempty) (parts_of word words t) ∙ all_kept (word ∷ words) t

-- the bytes of a line
word_in_line : (word : List ℕ) → is_word word ≡ true → list_all is_line_byte word ≡ true
word_in_line word t =
    list_all-from_AllPass is_line_byte word
    (All-weaker (λ b. is_word_byte b ≡ true) (λ b. is_line_byte b ≡ true) in_line word
    (AllPass-from_list_all is_word_byte word (and_parts (is_nonempty word) _ t).1))

joined_line : (words : List (List ℕ)) → list_all is_word words ≡ true
    → list_all is_line_byte (join_with_byte 32 words) ≡ true
joined_line [] t = refl
joined_line (word ∷ []) t = word_in_line word (and_parts (is_word word) true t).0
joined_line (word ∷ next ∷ words) t =
    let own = and_parts (is_word word) (list_all is_word (next ∷ words)) t in
    list_all-append is_line_byte word (32 ∷ join_with_byte 32 (next ∷ words))
    ∙ and_from _ _ (word_in_line word own.0) (joined_line (next ∷ words) own.1)

-- no comment is cut off
whole_line : (line : List ℕ) → list_all is_line_byte line ≡ true → without_comment line ≡ line
whole_line line t =
    let none : All (λ b. (b == 35) ≡ false) line =
    fails is_line_byte (λ b. b == 35) no_comment line t in
    let end : position_or_len (λ b. b == 35) line ≡ length line =
    position_or_len_is (λ b. b == 35) line (length line) 0 (omega arith) (λ k less. none k 0 less)
    (λ less. absurd (omega arith)) in
    ap (λ n. take n line) end ∙ take-length line

-- the words of a line are those that were joined
pub words_back : (words : List (List ℕ)) → list_all is_word words ≡ true
    → words_of (without_comment (join_with_byte 32 words)) ≡ words
words_back words t =
    ap words_of (whole_line (join_with_byte 32 words) (joined_line words t)) ∙ joined_words words t

parts-cons : (line : List ℕ) (parts : List (List ℕ)) → 0 < length parts
    → without_empty_end (line ∷ parts) ≡ line ∷ without_empty_end parts
parts-cons line [] some = absurd (omega arith)
parts-cons line (next ∷ parts) some = refl

shifted : (line rest : List ℕ) → (line ++ 10 ∷ []) ++ rest ≡ line ++ 10 ∷ rest
shifted [] rest = refl
shifted (b ∷ line) rest = ap (λ xs. b ∷ xs) (shifted line rest)

-- the lines of a text are those that were ended
pub lines_back : LinesReadBack
lines_back [] t = refl
lines_back (line ∷ more) t =
    let own = and_parts (list_all is_word line) (list_all (list_all is_word) more) t in
    let bytes = joined_line line own.0 in
    let rest : List ℕ = flat_map ended more in
    let cut : slice_split (λ b. b == 10) (join_with_byte 32 line ++ 10 ∷ rest)
    ≡ join_with_byte 32 line ∷ slice_split (λ b. b == 10) rest =
    slice_split_at (λ b. b == 10) (join_with_byte 32 line) 10 rest
    (fails is_line_byte (λ b. b == 10) no_newline (join_with_byte 32 line) bytes) refl in
    let some : 0 < length (slice_split (λ b. b == 10) rest) =
    omega (arith, length-slice_split (λ b. b == 10) rest) in
    ap lines_by_feed (shifted (join_with_byte 32 line) rest) ∙ ap without_empty_end cut
    ∙ parts-cons (join_with_byte 32 line) (slice_split (λ b. b == 10) rest) some
    ∙ ap (λ ls. join_with_byte 32 line ∷ ls) (lines_back more own.1)
