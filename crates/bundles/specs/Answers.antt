-- The section of a run's answers: how the targets start, and then an answer a line.
use Rattle.std.specs.Prelude.{◌≡◌, ℕ, ◌+◌, map, List, [], ◌∷◌, ◌==◌, length, Option, Some}
use Rattle.std.specs.Prelude.{None, option_map}
use Rattle.std.specs.Prelude.{option_and_then, Result, Ok, Err, if◌then◌else◌, codes}
use Rattle.std.specs.List.{slice_split}
use Rattle.std.specs.Str.{bytes_eq}
use Rattle.texts.specs.Reading.{◌>>=◌, some_or}
use Rattle.texts.specs.Words.{words_of}
use Rattle.texts.specs.Hex.{pair_of}
use Rattle.smbus.specs.Answered.{Answered, silence}
use Rattle.bundles.specs.declared.fault.BundleFault.{BundleFault}
use Rattle.bundles.specs.Bundles.{Line, Section}
use Rattle.bundles.specs.declared.fault.BundleFault.TheVariants.{BadAnswer}
use Rattle.bundles.specs.declared.flaw.Flaw.TheVariants.{NoLine, Whole}
use Rattle.bundles.specs.AnswerLines.{answer_line_of}
use Rattle.bundles.specs.CountedLines.{counted_lines}
use Rattle.texts.specs.Ascii as ascii

pub record Answers : Type 0 where
  -- the page and the protection that each target starts with
  pub pages : List ℕ
  pub protects : List ℕ
  -- what all targets do, step by step
  pub answers : List Answered

-- the bytes of some parts, if each of them is two digits
unfoldable pub bytes_in : List (List ℕ) → Option (List ℕ)
bytes_in [] = Some []
bytes_in (part ∷ later) =
    option_and_then (λ byte. option_map (λ bytes. byte ∷ bytes) (bytes_in later)) (pair_of part)

-- the parts between commas
abbrev pub listed_bytes : List ℕ → Option (List ℕ)
listed_bytes text = bytes_in (slice_split (λ b. b == ascii.comma) text)

-- `start PAGES PROTECTS`
abbrev pub start_of : List Line → Option (List ℕ × List ℕ)
start_of (word ∷ pages ∷ protects ∷ []) =
    if bytes_eq word (codes "start")
    then option_and_then (λ started.
    option_map (λ protected. (started, protected)) (listed_bytes protects)) (listed_bytes pages)
    else None
start_of words = None

-- an answer a line, up to the first that is none
unfoldable pub answer_lines_of : List (ℕ × Line) → Result (List Answered) BundleFault
answer_lines_of [] = Ok []
answer_lines_of (first ∷ later) = do
  answer ← answer_line_of first.0 first.1
  answers ← answer_lines_of later
  Ok (answer ∷ answers)

-- what a line says, where it is an answer
abbrev pub read_or_silent : Result Answered BundleFault → Answered
read_or_silent (Ok answer) = answer
read_or_silent (Err fault) = silence

abbrev pub answer_said : ℕ × Line → Answered
answer_said line = read_or_silent (answer_line_of line.0 line.1)

abbrev pub IsGoodAnswer : ℕ × Line → Type 0
IsGoodAnswer line = answer_line_of line.0 line.1 ≡ Ok (answer_said line)

-- what lines say that are answers
abbrev pub answers_said : List (ℕ × Line) → List Answered
answers_said lines = map answer_said lines

-- the lines that count: where there is none, the fault is at the line below the bundle's last
unfoldable pub answers_of : ℕ → List (ℕ × Line) → Result Answers BundleFault
answers_of last [] = Err (BadAnswer last NoLine)
answers_of last (first ∷ later) = do
  start ← some_or (BadAnswer first.0 Whole) (start_of (words_of first.1))
  answers ← answer_lines_of later
  Ok (record { pages = start.0; protects = start.1; answers = answers })

abbrev pub answers_in : Section → Result Answers BundleFault
answers_in section = answers_of (section.first_line + length section.lines) (counted_lines section)
