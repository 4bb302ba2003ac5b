-- The printed form of answers: one line each, whose words stand in the order of their keys.
use Rattle.std.specs.Prelude.{ℕ, List, [], ◌∷◌, ◌++◌, map, Bool, true, not, ◌==◌, Option, Some}
use Rattle.std.specs.Prelude.{None}
use Rattle.std.specs.Prelude.{option_map, option_and_then, if◌then◌else◌, codes, filter}
use Rattle.std.specs.List.{join_with_byte, enumerate_from, flat_map}
use Rattle.std.specs.Fmt.{decimal, digits}
use Rattle.texts.specs.Ascii as ascii
use Rattle.texts.specs.Hex.{pair_text, pairs_text}
use Rattle.smbus.specs.Answered.{Answered}
use Rattle.smbus.specs.Contenders.{Contender, address_byte}
use Rattle.bundles.specs.Answers.{Answers}
use Rattle.bundles.specs.Bundles.{Line}
use Rattle.bundles.specs.Spelled.{spelled}
use Rattle.bundles.specs.SpelledAnswers.{AnswerLineValues, key_values}

-- ---- the values of the words, where they aren't what a missing word says

-- `SLOT:K`
abbrev pub hold_text : ℕ × ℕ → List ℕ
hold_text hold = decimal hold.0 ++ ascii.colon ∷ decimal hold.1

-- of each slot that is held
abbrev pub held_texts : ℕ → List ℕ → List (List ℕ)
held_texts slot holds =
    map hold_text (filter (λ (hold : ℕ × ℕ). not (hold.1 == 0)) (enumerate_from slot holds))

abbrev pub holds_value : List ℕ → Option (List ℕ)
holds_value [] = None
holds_value (hold ∷ later) = Some (join_with_byte ascii.comma (held_texts 0 (hold ∷ later)))

-- upper case hexadecimal digits without leading zeros
abbrev pub number_value : ℕ → Option (List ℕ)
number_value number = if number == 0 then None else Some (digits 16 true number)

abbrev pub bytes_value : List ℕ → Option (List ℕ)
bytes_value [] = None
bytes_value (byte ∷ later) = Some (pairs_text (byte ∷ later))

abbrev pub took_value : Bool → Option (List ℕ)
took_value took = if took then Some (codes "1") else None

-- `HH:PAIRS`
abbrev pub contender_text : Contender → List ℕ
contender_text c = pair_text (address_byte c) ++ ascii.colon ∷ pairs_text c.bytes

abbrev pub said_values : Answered → AnswerLineValues
said_values a = record {
  answer = record {
    holds = holds_value a.holds;
    refuse = option_map decimal a.refuse;
    value = number_value a.value;
    bytes = bytes_value a.bytes;
  };
  took = took_value a.took;
  alerts = number_value a.alerts;
  contender = option_map contender_text a.contender;
  cholds = option_and_then (λ (c : Contender). holds_value c.holds) a.contender;
}

-- ---- whole lines

-- a space between words, and `-` where there is none
abbrev pub line_of_words : List Line → Line
line_of_words [] = codes "-"
line_of_words (word ∷ words) = join_with_byte ascii.space (word ∷ words)

abbrev pub answer_text : Answered → Line
answer_text a = line_of_words (spelled (key_values (said_values a)))

-- a comma between bytes
abbrev pub list_text : List ℕ → List ℕ
list_text bytes = join_with_byte ascii.comma (map pair_text bytes)

abbrev pub start_text : List ℕ → List ℕ → Line
start_text pages protects =
    join_with_byte ascii.space (codes "start" ∷ list_text pages ∷ list_text protects ∷ [])

abbrev pub comment_text : List ℕ → Line
comment_text comment = codes "# " ++ comment

-- ---- texts

-- a line more, with its end
abbrev pub with_line : List ℕ → Line → List ℕ
with_line text line = text ++ (line ++ codes "\n")

abbrev pub commented_text : Option (List ℕ) → List ℕ
commented_text None = []
commented_text (Some comment) = with_line [] (comment_text comment)

-- a comment, if there is one, and the start
abbrev pub started_text : Option (List ℕ) → List ℕ → List ℕ → List ℕ
started_text comment pages protects =
    with_line (commented_text comment) (start_text pages protects)

-- a line for each answer
abbrev pub answer_lines_text : List Answered → List ℕ
answer_lines_text answers = flat_map (λ a. answer_text a ++ codes "\n") answers

-- a comment, if there is one, the start, and the answers
abbrev pub run_text : Option (List ℕ) → Answers → List ℕ
run_text comment said =
    started_text comment said.pages said.protects ++ answer_lines_text said.answers
