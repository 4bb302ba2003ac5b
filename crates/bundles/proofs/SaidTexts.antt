-- Lines that are added to a text of answers, and what it says then.
use Rattle.std.proofs.Common.{◌≡◌, ◌<◌, ℕ, ◌+◌, suc, Bool, true, false, List, []}
use Rattle.std.proofs.Common.{◌∷◌, ◌++◌, length, map, filter, Option, Some, None, option_map}
use Rattle.std.proofs.Common.{Result}
use Rattle.std.proofs.Common.{option_and_then, Ok, Err, codes, refl, sym, ap, subst, ◌∙◌}
use Rattle.std.proofs.Common.{append_assoc}
use Rattle.std.proofs.Common.{arith, All}
use Rattle.std.specs.Prelude.{IsTrue}
use Rattle.std.specs.List.{list_all, enumerate_from}
use Rattle.std.specs.Str.Lines.{lines}
use Rattle.std.proofs.lemmas.Bool.{and_from, lt-ltb}
use Rattle.std.proofs.lemmas.List.{append-nil}
use Rattle.std.proofs.lemmas.List.Elements.{All-nil, All-append, All-from_recursion, All-head}
use Rattle.std.proofs.lemmas.List.Elements.{All-tail, filter-append}
use Rattle.texts.specs.Hex.{pair_text}
use Rattle.texts.specs.Reading.{◌>>=◌, some_or}
use Rattle.texts.specs.Words.{words_of}
use Rattle.texts.specs.ReadBack.{PairsReadBack}
use Rattle.smbus.specs.Answered.{Answered}
use Rattle.bundles.specs.declared.fault.BundleFault.{BundleFault}
use Rattle.bundles.specs.declared.fault.BundleFault.TheVariants.{BadAnswer}
use Rattle.bundles.specs.declared.flaw.Flaw.TheVariants.{Whole}
use Rattle.bundles.specs.AnswerLines.{answer_line_of}
use Rattle.bundles.specs.AnswerLineTexts.{list_text, start_text, comment_text, with_line}
use Rattle.bundles.specs.Answers.{Answers, bytes_in, listed_bytes, start_of, answer_lines_of}
use Rattle.bundles.specs.Answers.{answers_of}
use Rattle.bundles.specs.AnswerTexts.{SaysAnswers, is_one_line, with_answer}
use Rattle.bundles.specs.Bundles.{Line}
use Rattle.bundles.specs.Composed.{is_ended, IsNoHeader, IsPlain}
use Rattle.bundles.specs.CountedLines.{is_counted, counted_lines}
use Rattle.bundles.specs.TextLines.{IsLine, IsLineOf, IsStartOf, IsComment, SaysNothing}
use Rattle.bundles.proofs.ComposedBundles.{lines_joined}
use Rattle.bundles.proofs.CutParts.{are_above, all_above_less, weaker, joined_above, is_word}
use Rattle.bundles.proofs.CutParts.{some_parts_back, words_back}
use Rattle.bundles.proofs.Numerals.{pair_above}
use Rattle.bundles.proofs.Readings.{bind_ok, ok_is}
use Rattle.bundles.proofs.SaidLines.{is_line, one_line, lower_words}

-- ---- a line more

lines_more : (text : List ℕ) (line : Line) → IsPlain text → IsLine line
    → lines (with_line text line) ≡ lines text ++ line ∷ []
lines_more text line p l =
    lines_joined text (line ++ codes "\n") p.whole
    ∙ ap (λ (ls : List Line). lines text ++ ls) l.whole

ends : (text : List ℕ) → is_ended (text ++ 10 ∷ []) ≡ true
ends [] = refl
ends (b ∷ []) = refl
ends (b ∷ c ∷ later) = ends (c ∷ later)

plain_more : (text : List ℕ) (line : Line) → IsPlain text → IsLine line
    → IsPlain (with_line text line)
plain_more text line p l = record {
  whole = ap is_ended (sym (append_assoc text line (10 ∷ []))) ∙ ends (text ++ line);
  no_header =
      subst (All IsNoHeader) (sym (lines_more text line p l))
      (All-append IsNoHeader (lines text) (line ∷ []) p.no_header
      (All-from_recursion IsNoHeader (line ∷ []) (l.no_header, tt)));
}

abbrev counts : ℕ × Line → Bool
counts numbered = is_counted numbered.1

numbered_more : (number : ℕ) (above : List Line) (line : Line)
    → enumerate_from number (above ++ line ∷ [])
    ≡ enumerate_from number above ++ (number + length above, line) ∷ []
numbered_more number [] line =
    let same : number + 0 ≡ number = omega arith in
    rw same refl
numbered_more number (first ∷ above) line =
    let same : number + suc (length above) ≡ number + 1 + length above = omega arith in
    rw same (ap (λ (ls : List (ℕ × Line)). (number, first) ∷ ls)
    (numbered_more (number + 1) above line))

abbrev counted_in : ℕ → List ℕ → List (ℕ × Line)
counted_in number text = counted_lines (record { first_line = number; lines = lines text })

counted_more : (number : ℕ) (text : List ℕ) (line : Line) → IsPlain text → IsLine line
    → counted_in number (with_line text line)
    ≡ counted_in number text ++ filter counts ((number + length (lines text), line) ∷ [])
counted_more number text line p l =
    ap (λ (ls : List Line). filter counts (enumerate_from number ls)) (lines_more text line p l)
    ∙ ap (filter counts) (numbered_more number (lines text) line)
    ∙ filter-append counts (enumerate_from number (lines text))
    ((number + length (lines text), line) ∷ [])

one_counts : (number : ℕ) (line : Line) → is_counted line ≡ true
    → filter counts ((number, line) ∷ []) ≡ (number, line) ∷ []
one_counts number line t = rw t refl

none_counts : (number : ℕ) (line : Line) → is_counted line ≡ false
    → filter counts ((number, line) ∷ []) ≡ []
none_counts number line t = rw t refl

-- ---- an answer more

answers_more : (placed : List (ℕ × Line)) (number : ℕ) (line : Line) (a : Answered)
    → answer_line_of number line ≡ Ok a
    → (answers : List Answered) → answer_lines_of placed ≡ Ok answers
    → answer_lines_of (placed ++ (number, line) ∷ []) ≡ Ok (answers ++ a ∷ [])
unfolding answer_lines_of
answers_more [] number line a said answers e =
    rw said (ap (λ (all : List Answered). Ok (all ++ a ∷ [])) (ok_is [] answers e))
answers_more (first ∷ placed) number line a said answers e =
    let one = bind_ok (answer_line_of first.0 first.1) _ answers e in
    let others = bind_ok (answer_lines_of placed) _ answers one.2 in
    let same : one.0 ∷ others.0 ≡ answers = ok_is (one.0 ∷ others.0) answers others.2 in
    rw (one.1, answers_more placed number line a said others.0 others.1)
    (ap (λ (all : List Answered). Ok (all ++ a ∷ [])) same)

abbrev started : List ℕ × List ℕ → List Answered → Answers
started start answers = record { pages = start.0; protects = start.1; answers = answers }

with_one : (fault : BundleFault) (start : Option (List ℕ × List ℕ))
    (before after : Result (List Answered) BundleFault) (said : Answers) (a : Answered)
    → (some_or fault start >>= λ s. before >>= λ answers. Ok (started s answers)) ≡ Ok said
    → ((answers : List Answered) → before ≡ Ok answers → after ≡ Ok (answers ++ a ∷ []))
    → (some_or fault start >>= λ s. after >>= λ answers. Ok (started s answers))
    ≡ Ok (with_answer said a)
with_one fault None before after said a e more = absurd (cc)
with_one fault (Some s) (Err other) after said a e more = absurd (cc)
with_one fault (Some s) (Ok answers) after said a e more =
    rw (more answers refl)
    (ap (λ (all : Answers). Ok (with_answer all a)) (ok_is (started s answers) said e))

section_more : (last next : ℕ) (placed : List (ℕ × Line)) (number : ℕ) (line : Line)
    (a : Answered) (said : Answers) → answer_line_of number line ≡ Ok a
    → answers_of last placed ≡ Ok said
    → answers_of next (placed ++ (number, line) ∷ []) ≡ Ok (with_answer said a)
unfolding answers_of
section_more last next [] number line a said says e = absurd (cc)
section_more last next (first ∷ placed) number line a said says e =
    with_one (BadAnswer first.0 Whole) (start_of (words_of first.1)) (answer_lines_of placed)
    (answer_lines_of (placed ++ (number, line) ∷ [])) said a e
    (answers_more placed number line a says)

same_section : (last next : ℕ) (placed : List (ℕ × Line)) (said : Answers)
    → answers_of last placed ≡ Ok said → answers_of next placed ≡ Ok said
unfolding answers_of
same_section last next [] said e = absurd (cc)
same_section last next (first ∷ placed) said e = e

abbrev end_of : ℕ → List ℕ → ℕ
end_of number text = number + length (lines text)

pub answer_said : (text new : List ℕ) (line : Line) (a : Answered) (said : Answers)
    → new ≡ with_line text line → IsLineOf line a → SaysAnswers text said
    → SaysAnswers new (with_answer said a)
answer_said text new line a said e l s =
    subst (λ (t : List ℕ). SaysAnswers t (with_answer said a)) (sym e) (record {
      read = λ number.
          ap (answers_of (end_of number (with_line text line)))
          (counted_more number text line s.plain l.stands
          ∙ ap (λ (ls : List (ℕ × Line)). counted_in number text ++ ls)
          (one_counts (end_of number text) line l.counted))
          ∙ section_more (end_of number text) (end_of number (with_line text line))
          (counted_in number text) (end_of number text) line a said
          (l.says (end_of number text)) (s.read number);
      plain = plain_more text line s.plain l.stands;
    })

-- ---- a comment more

skipped_more : (number : ℕ) (text : List ℕ) (line : Line) → IsPlain text → IsComment line
    → counted_in number (with_line text line) ≡ counted_in number text
skipped_more number text line p l =
    counted_more number text line p l.stands
    ∙ ap (λ (ls : List (ℕ × Line)). counted_in number text ++ ls)
    (none_counts (end_of number text) line l.skipped)
    ∙ append-nil (counted_in number text)

pub comment_said : (text new : List ℕ) (line : Line) (said : Answers)
    → new ≡ with_line text line → IsComment line → SaysAnswers text said
    → SaysAnswers new said
comment_said text new line said e l s =
    subst (λ (t : List ℕ). SaysAnswers t said) (sym e) (record {
      read = λ number.
          ap (answers_of (end_of number (with_line text line)))
          (skipped_more number text line s.plain l)
          ∙ same_section (end_of number text) (end_of number (with_line text line))
          (counted_in number text) said (s.read number);
      plain = plain_more text line s.plain l.stands;
    })

pub nothing_said : SaysNothing []
nothing_said = record {
  plain = record { whole = refl; no_header = All-nil IsNoHeader };
  none = λ number. refl;
}

pub comment_alone : (text new : List ℕ) (line : Line) → new ≡ with_line text line
    → IsComment line → SaysNothing text → SaysNothing new
comment_alone text new line e l s =
    subst SaysNothing (sym e) (record {
      plain = plain_more text line s.plain l.stands;
      none = λ number. skipped_more number text line s.plain l ∙ s.none number;
    })

pub is_comment : (line comment : List ℕ) → line ≡ comment_text comment
    → IsTrue (is_one_line comment) → IsComment line
is_comment line comment e t =
    subst IsComment (sym e) (record {
      stands = is_line (comment_text comment) t refl;
      skipped = refl;
    })

-- ---- the start

only_start : (next number : ℕ) (line : Line) (pages protects : List ℕ)
    → start_of (words_of line) ≡ Some (pages, protects)
    → answers_of next ((number, line) ∷ []) ≡ Ok (started (pages, protects) [])
unfolding answers_of answer_lines_of
only_start next number line pages protects e =
    ap (λ (o : Option (List ℕ × List ℕ)). some_or (BadAnswer number Whole) o
    >>= λ s. (Ok (started s []))) e

pub start_said : (text new : List ℕ) (line : Line) (pages protects : List ℕ)
    → new ≡ with_line text line → IsStartOf line pages protects → SaysNothing text
    → SaysAnswers new (record { pages = pages; protects = protects; answers = [] })
start_said text new line pages protects e l s =
    subst (λ (t : List ℕ). SaysAnswers t (started (pages, protects) [])) (sym e) (record {
      read = λ number.
          ap (answers_of (end_of number (with_line text line)))
          (counted_more number text line s.plain l.stands
          ∙ ap (λ (ls : List (ℕ × Line)). ls
          ++ filter counts ((end_of number text, line) ∷ [])) (s.none number)
          ∙ one_counts (end_of number text) line l.counted)
          ∙ only_start (end_of number (with_line text line)) (end_of number text) line pages
          protects l.says;
      plain = plain_more text line s.plain l.stands;
    })

abbrev IsByte : ℕ → Type 0
IsByte byte = byte < 256

pairs_in : PairsReadBack → (bytes : List ℕ) → All IsByte bytes
    → bytes_in (map pair_text bytes) ≡ Some bytes
unfolding bytes_in
pairs_in reads [] small = refl
pairs_in reads (byte ∷ bytes) small =
    ap (option_and_then (λ byte. option_map (λ bytes. byte ∷ bytes)
    (bytes_in (map pair_text bytes)))) (reads byte (All-head IsByte byte bytes small))
    ∙ ap (option_map (λ bytes. byte ∷ bytes))
    (pairs_in reads bytes (All-tail IsByte byte bytes small))

pairs_above : (bytes : List ℕ) → All IsByte bytes
    → list_all (are_above 44) (map pair_text bytes) ≡ true
pairs_above [] small = refl
pairs_above (byte ∷ bytes) small =
    and_from _ _ (pair_above byte (All-head IsByte byte bytes small))
    (pairs_above bytes (All-tail IsByte byte bytes small))

some_pairs : (bytes : List ℕ) → 0 < length bytes → 0 < length (map pair_text bytes)
some_pairs [] some = absurd (omega (arith, some))
some_pairs (byte ∷ bytes) some = omega arith

some_list : (bytes : List ℕ) → 0 < length bytes → 0 < length (list_text bytes)
some_list [] some = absurd (omega (arith, some))
some_list (byte ∷ []) some = omega arith
some_list (byte ∷ next ∷ bytes) some = omega arith

list_back : PairsReadBack → (bytes : List ℕ) → 0 < length bytes → All IsByte bytes
    → listed_bytes (list_text bytes) ≡ Some bytes
list_back reads bytes some small =
    ap bytes_in (some_parts_back 44 44 (omega arith) (map pair_text bytes) (some_pairs bytes some)
    (pairs_above bytes small))
    ∙ pairs_in reads bytes small

list_is_word : (bytes : List ℕ) → 0 < length bytes → All IsByte bytes
    → is_word (list_text bytes) ≡ true
list_is_word bytes some small =
    and_from _ _ (lt-ltb 0 (length (list_text bytes)) (some_list bytes some))
    (joined_above 37 44 refl (map pair_text bytes)
    (weaker (are_above 44) (are_above 37) (all_above_less 37 44 (omega arith))
    (map pair_text bytes) (pairs_above bytes small)))

is_start_text : PairsReadBack → (pages protects : List ℕ) → 0 < length pages → 0 < length protects
    → All IsByte pages → All IsByte protects → IsStartOf (start_text pages protects) pages protects
is_start_text reads pages protects some_page some_protect small small' =
    let words : List Line = codes "start" ∷ list_text pages ∷ list_text protects ∷ [] in
    let all : list_all is_word words ≡ true =
    and_from _ _ refl (and_from _ _ (list_is_word pages some_page small)
    (and_from _ _ (list_is_word protects some_protect small') refl)) in
    let line = start_text pages protects in
    record {
      stands =
          is_line line (one_line line (joined_above 31 32 refl words (lower_words words all))) refl;
      counted = refl;
      says =
          ap start_of (words_back words all)
          ∙ ap (option_and_then (λ started. option_map (λ protected. (started, protected))
          (listed_bytes (list_text protects)))) (list_back reads pages some_page small)
          ∙ ap (option_map (λ protected. (pages, protected)))
          (list_back reads protects some_protect small');
    }

pub is_joined : (line pages protects : List ℕ)
    → line ≡ ((codes "start " ++ list_text pages) ++ codes " ") ++ list_text protects
    → line ≡ start_text pages protects
is_joined line pages protects e =
    e ∙ ap (λ (rest : List ℕ). codes "start " ++ rest)
    (append_assoc (list_text pages) (32 ∷ []) (list_text protects))

pub is_start : PairsReadBack → (line pages protects : List ℕ) → 0 < length pages
    → 0 < length protects
    → All (λ byte. byte < 256) pages → All (λ byte. byte < 256) protects
    → line ≡ start_text pages protects → IsStartOf line pages protects
is_start reads line pages protects some_page some_protect small small' e =
    subst (λ (l : Line). IsStartOf l pages protects) (sym e)
    (is_start_text reads pages protects some_page some_protect small small')
