-- Words that are written one after another are a line, and lines of answers are read back.
use Rattle.std.proofs.Common.{◌≡◌, ◌<◌, ℕ, ◌-◌, Bool, true, false, not, ◌&&◌, ◌==◌}
use Rattle.std.proofs.Common.{nat_lt, List, [], ◌∷◌, ◌++◌, length, Option, Some, None}
use Rattle.std.proofs.Common.{refl, sym, ap, subst, ◌∙◌, append_assoc, arith, All}
use Rattle.std.specs.List.{list_all, join_with_byte}
use Rattle.std.specs.Str.Lines.{lines_of_parts, strip_carriage_return}
use Rattle.std.proofs.lemmas.Bool.{and_parts, and_from, lt-ltb}
use Rattle.std.proofs.lemmas.Bool.Decides.{nat_tests}
use Rattle.std.proofs.lemmas.List.{append-nil}
use Rattle.std.proofs.lemmas.List.Folds.{list_all-append}
use Rattle.std.proofs.lemmas.List.Elements.{All-weaker}
use Rattle.std.proofs.lemmas.List.Splits.{slice_split_at}
use Rattle.std.proofs.lemmas.List.Sums.{AllPass-from_list_all}
use Rattle.std.proofs.Math.Dec.{eqb-suc-zero}
use Rattle.texts.specs.Words.{words_of}
use Rattle.smbus.specs.Answered.{Answered}
use Rattle.bundles.specs.AnswerLines.{without_dash}
use Rattle.bundles.specs.AnswerLineTexts.{said_values, line_of_words, answer_text}
use Rattle.bundles.specs.AnswerTexts.{CanBeSaid, is_one_line}
use Rattle.bundles.specs.Bundles.{Line}
use Rattle.bundles.specs.Composed.{IsNoHeader}
use Rattle.bundles.specs.CountedLines.{is_counted}
use Rattle.bundles.specs.Spelled.{KeyValues, spelled}
use Rattle.bundles.specs.SpelledAnswers.{key_values, IsAnswerLine}
use Rattle.bundles.specs.TextLines.{IsLine, IsLineOf}
use Rattle.bundles.specs.WrittenWords.{spaced, with_values, or_dash, written_line, IsTyped}
use Rattle.bundles.proofs.AnswerLineLaw.{all_lines}
use Rattle.bundles.proofs.CutParts.{are_above, all_above_less, weaker, joined_above, is_word}
use Rattle.bundles.proofs.CutParts.{words_above, words_back}
use Rattle.bundles.proofs.Numerals.{NumbersReadBack}
use Rattle.bundles.proofs.SaidHolds.{holds_back}
use Rattle.bundles.proofs.SaidValues.{refuse_back, number_said, bytes_back, took_back}
use Rattle.bundles.proofs.SaidValues.{contender_back, value_above, holds_value_above, refuse_above}
use Rattle.bundles.proofs.SaidValues.{number_value_above, bytes_value_above, took_above}
use Rattle.bundles.proofs.SaidValues.{contender_above, other_holds_above}

-- ---- words behind one another

behind_joined : (word next : List ℕ) (words : List Line)
    → join_with_byte 32 ((word ∷ words) ++ next ∷ [])
    ≡ join_with_byte 32 (word ∷ words) ++ 32 ∷ next
behind_joined word next [] = refl
behind_joined word next (second ∷ words) =
    ap (λ (rest : List ℕ). word ++ 32 ∷ rest) (behind_joined second next words)
    ∙ sym (append_assoc word (32 ∷ join_with_byte 32 (second ∷ words)) (32 ∷ next))

spaced_some : (text : List ℕ) → 0 < length text → spaced text ≡ text ++ 32 ∷ []
spaced_some [] some = absurd (omega (arith, some))
spaced_some (b ∷ text) some = rw (eqb-suc-zero (length text)) refl

some_joined : (word : List ℕ) (words : List Line) → is_word word ≡ true
    → 0 < length (join_with_byte 32 (word ∷ words))
some_joined [] words t = absurd (cc)
some_joined (b ∷ word) [] t = omega arith
some_joined (b ∷ word) (next ∷ words) t = omega arith

word_more : (words : List Line) (key value : List ℕ) → list_all is_word words ≡ true
    → (spaced (join_with_byte 32 words) ++ key) ++ value
    ≡ join_with_byte 32 (words ++ (key ++ value) ∷ [])
word_more [] key value t = refl
word_more (word ∷ words) key value t =
    let text : List ℕ = join_with_byte 32 (word ∷ words) in
    let some = some_joined word words (and_parts (is_word word) (list_all is_word words) t).0 in
    ap (λ (front : List ℕ). (front ++ key) ++ value) (spaced_some text some)
    ∙ append_assoc (text ++ 32 ∷ []) key value
    ∙ append_assoc text (32 ∷ []) (key ++ value)
    ∙ sym (behind_joined word (key ++ value) words)

-- ---- words that begin with a letter of their key

abbrev is_key : List ℕ → Bool
is_key [] = false
is_key (b ∷ more) = nat_lt 96 b && are_above 37 more

abbrev is_said : List ℕ × Option (List ℕ) → Bool
is_said pair = is_key pair.0 && value_above pair.1

key_value : (key value : List ℕ) → is_key key ≡ true → are_above 37 value ≡ true
    → is_key (key ++ value) ≡ true
key_value [] value t v = absurd (cc)
key_value (b ∷ more) value t v =
    let own = and_parts (nat_lt 96 b) (are_above 37 more) t in
    and_from _ _ own.0 (list_all-append (λ b. nat_lt 37 b) more value ∙ and_from _ _ own.1 v)

letter_above : (b : ℕ) → nat_lt 96 b ≡ true → nat_lt 37 b ≡ true
letter_above b t = grind (arith, nat_tests)

key_is_word : (word : List ℕ) → is_key word ≡ true → is_word word ≡ true
key_is_word [] t = absurd (cc)
key_is_word (b ∷ more) t =
    let own = and_parts (nat_lt 96 b) (are_above 37 more) t in
    and_from _ _ (lt-ltb 0 (length (b ∷ more)) (omega arith))
    (and_from _ _ (letter_above b own.0) own.1)

said_words : (pairs : KeyValues) → list_all is_said pairs ≡ true
    → list_all is_key (spelled pairs) ≡ true
said_words [] t = refl
said_words ((key, None) ∷ later) t =
    said_words later (and_parts (is_said (key, None)) (list_all is_said later) t).1
said_words ((key, Some value) ∷ later) t =
    let own = and_parts (is_said (key, Some value)) (list_all is_said later) t in
    let first = and_parts (is_key key) (are_above 37 value) own.0 in
    and_from _ _ (key_value key value first.0 first.1) (said_words later own.1)

words_of_keys : (words : List Line) → list_all is_key words ≡ true → list_all is_word words ≡ true
words_of_keys words t = weaker is_key is_word key_is_word words t

grown : (pairs : KeyValues) (words : List Line) → list_all is_word words ≡ true
    → list_all is_said pairs ≡ true
    → with_values (join_with_byte 32 words) pairs ≡ join_with_byte 32 (words ++ spelled pairs)
grown [] words w t = ap (join_with_byte 32) (sym (append-nil words))
grown ((key, None) ∷ later) words w t =
    grown later words w (and_parts (is_said (key, None)) (list_all is_said later) t).1
grown ((key, Some value) ∷ later) words w t =
    let own = and_parts (is_said (key, Some value)) (list_all is_said later) t in
    let first = and_parts (is_key key) (are_above 37 value) own.0 in
    let word = key_is_word (key ++ value) (key_value key value first.0 first.1) in
    let more = list_all-append is_word words ((key ++ value) ∷ [])
    ∙ and_from _ _ w (and_from _ _ word refl) in
    ap (λ (text : List ℕ). with_values text later) (word_more words key value w)
    ∙ grown later (words ++ (key ++ value) ∷ []) more own.1
    ∙ ap (join_with_byte 32) (append_assoc words ((key ++ value) ∷ []) (spelled later))

dashed : (words : List Line) → list_all is_word words ≡ true
    → or_dash (join_with_byte 32 words) ≡ line_of_words words
dashed [] t = refl
dashed (word ∷ words) t =
    some_kept (join_with_byte 32 (word ∷ words))
    (some_joined word words (and_parts (is_word word) (list_all is_word words) t).0)
  where
    some_kept : (text : List ℕ) → 0 < length text → or_dash text ≡ text
    some_kept [] some = absurd (omega (arith, some))
    some_kept (b ∷ text) some = rw (eqb-suc-zero (length text)) refl

-- ---- what a line says

no_dash : (b : ℕ) → nat_lt 96 b ≡ true → (b == 45) ≡ false
no_dash b t = grind (arith, nat_tests)

kept_words : (words : List Line) → list_all is_key words ≡ true → without_dash words ≡ words
kept_words [] t = refl
kept_words ([] ∷ []) t = absurd (cc)
kept_words ((b ∷ more) ∷ []) t =
    let own = and_parts (is_key (b ∷ more)) true t in
    let first = and_parts (nat_lt 96 b) (are_above 37 more) own.0 in
    rw (no_dash b first.0) refl
kept_words (word ∷ next ∷ words) t = refl

line_back : (words : List Line) → list_all is_key words ≡ true
    → without_dash (words_of (line_of_words words)) ≡ words
line_back [] t = refl
line_back (word ∷ words) t =
    ap without_dash (words_back (word ∷ words) (words_of_keys (word ∷ words) t))
    ∙ kept_words (word ∷ words) t

-- ---- lines of a text

no_feed : (b : ℕ) → (not (b == 10) && not (b == 13)) ≡ true → (b == 10) ≡ false
no_feed b t = grind (arith, nat_tests)

no_return : (b : ℕ) → (not (b == 10) && not (b == 13)) ≡ true → (b == 13) ≡ false
no_return b t = grind (arith, nat_tests)

none_in : (c : ℕ) → ((b : ℕ) → (not (b == 10) && not (b == 13)) ≡ true → (b == c) ≡ false)
    → (line : List ℕ) → is_one_line line ≡ true → All (λ b. (b == c) ≡ false) line
none_in c f line t =
    All-weaker (λ b. (not (b == 10) && not (b == 13)) ≡ true) (λ b. (b == c) ≡ false) f line
    (AllPass-from_list_all (λ b. not (b == 10) && not (b == 13)) line t)

not_stripped : (line : List ℕ) → is_one_line line ≡ true → strip_carriage_return line ≡ line
not_stripped [] t = refl
not_stripped (b ∷ more) t =
    let last = none_in 13 no_return (b ∷ more) t (length (b ∷ more) - 1) 0 (omega arith) in
    rw last refl

pub is_line : (line : List ℕ) → is_one_line line ≡ true → IsNoHeader line → IsLine line
is_line line t none = record {
  whole =
      ap lines_of_parts (slice_split_at (λ b. b == 10) line 10 [] (none_in 10 no_feed line t) refl)
      ∙ ap (λ (l : List ℕ). l ∷ []) (not_stripped line t);
  no_header = none;
}

not_end : (b : ℕ) → nat_lt 31 b ≡ true → (not (b == 10) && not (b == 13)) ≡ true
not_end b t = grind (arith, nat_tests)

pub one_line : (line : List ℕ) → are_above 31 line ≡ true → is_one_line line ≡ true
one_line line t =
    weaker (λ b. nat_lt 31 b) (λ b. not (b == 10) && not (b == 13)) not_end line t

record BeginsWell (line : Line) : Type 0 where
  counted : is_counted line ≡ true
  no_header : IsNoHeader line

no_space : (b : ℕ) → nat_lt 96 b ≡ true → (b == 32) ≡ false
no_space b t = grind (arith, nat_tests)

no_comment : (b : ℕ) → nat_lt 96 b ≡ true → (b == 35) ≡ false
no_comment b t = grind (arith, nat_tests)

no_percent : (b : ℕ) → nat_lt 96 b ≡ true → (b == 37) ≡ false
no_percent b t = grind (arith, nat_tests)

letter_begins : (b : ℕ) (more : List ℕ) → nat_lt 96 b ≡ true → BeginsWell (b ∷ more)
letter_begins b more t = record {
  counted = rw (no_space b t, no_comment b t) refl;
  no_header = no_percent b t;
}

words_begin : (words : List Line) → list_all is_key words ≡ true → BeginsWell (line_of_words words)
words_begin [] t = record { counted = refl; no_header = refl }
words_begin ([] ∷ words) t = absurd (cc)
words_begin ((b ∷ more) ∷ []) t =
    let own = and_parts (is_key (b ∷ more)) true t in
    letter_begins b more (and_parts (nat_lt 96 b) (are_above 37 more) own.0).0
words_begin ((b ∷ more) ∷ next ∷ words) t =
    let own = and_parts (is_key (b ∷ more)) (list_all is_key (next ∷ words)) t in
    letter_begins b (more ++ 32 ∷ join_with_byte 32 (next ∷ words))
    (and_parts (nat_lt 96 b) (are_above 37 more) own.0).0

pub lower_words : (words : List Line) → list_all is_word words ≡ true
    → list_all (are_above 31) words ≡ true
lower_words words t =
    weaker (are_above 37) (are_above 31) (all_above_less 31 37 (omega arith)) words
    (words_above words t)

words_above_31 : (words : List Line) → list_all is_key words ≡ true
    → are_above 31 (line_of_words words) ≡ true
words_above_31 [] t = refl
words_above_31 (word ∷ words) t =
    joined_above 31 32 refl (word ∷ words) (lower_words (word ∷ words)
    (words_of_keys (word ∷ words) t))

-- ---- answers

all_said : (a : Answered) → IsTyped a → CanBeSaid a
    → list_all is_said (key_values (said_values a)) ≡ true
all_said a t s =
    and_from _ _ (holds_value_above a.holds s.holds)
    (and_from _ _ (refuse_above a.refuse t.refuse)
    (and_from _ _ (number_value_above a.value t.value)
    (and_from _ _ (bytes_value_above a.bytes t.bytes)
    (and_from _ _ (took_above a.took)
    (and_from _ _ (number_value_above a.alerts t.alerts)
    (and_from _ _ (contender_above a.contender t.contender)
    (and_from _ _ (other_holds_above a.contender s.contender) refl)))))))

pub is_written : (a : Answered) → IsTyped a → CanBeSaid a → written_line a ≡ answer_text a
is_written a t s =
    let said = all_said a t s in
    ap or_dash (grown (key_values (said_values a)) [] refl said)
    ∙ dashed (spelled (key_values (said_values a)))
    (words_of_keys (spelled (key_values (said_values a)))
    (said_words (key_values (said_values a)) said))

spells_answer : NumbersReadBack → (a : Answered) → IsTyped a → CanBeSaid a
    → IsAnswerLine (answer_text a) a
spells_answer reads a t s = record {
  values = said_values a;
  words =
      line_back (spelled (key_values (said_values a)))
      (said_words (key_values (said_values a)) (all_said a t s));
  says = record {
    holds = holds_back reads.decimal a.holds s.holds;
    refuse = refuse_back reads.decimal a.refuse t.refuse;
    value = number_said a.value t.value;
    bytes = bytes_back reads.bytes a.bytes t.bytes;
  };
  took = took_back a.took;
  alerts = number_said a.alerts t.alerts;
  contender = contender_back reads a.contender t.contender s.contender;
}

pub says_answer : NumbersReadBack → (a : Answered) → IsTyped a → CanBeSaid a
    → IsLineOf (answer_text a) a
says_answer reads a t s =
    let words : List Line = spelled (key_values (said_values a)) in
    let keys = said_words (key_values (said_values a)) (all_said a t s) in
    let begins = words_begin words keys in
    record {
      stands =
          is_line (answer_text a) (one_line (answer_text a) (words_above_31 words keys))
          begins.no_header;
      counted = begins.counted;
      says = λ number. (all_lines number (answer_text a) a).1 (spells_answer reads a t s);
    }

pub of_text : NumbersReadBack → (line : Line) (a : Answered) → line ≡ written_line a → IsTyped a
    → CanBeSaid a
    → IsLineOf line a
of_text reads line a e t s =
    subst (λ (l : Line). IsLineOf l a) (sym (e ∙ is_written a t s)) (says_answer reads a t s)
