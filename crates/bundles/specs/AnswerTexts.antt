-- Answers as texts that are read back: which answers a line can say, and what a text says.
use Rattle.std.specs.Prelude.{◌≡◌, ◌≤◌, ℕ, List, [], ◌∷◌, ◌++◌, length, Bool, true, not, ◌==◌, ◌&&◌}
use Rattle.std.specs.Prelude.{All, IfSome, IsTrue, Ok}
use Rattle.std.specs.List.{list_all}
use Rattle.std.specs.Str.Lines.{lines}
use Rattle.texts.specs.Ascii as ascii
use Rattle.bit_bus.specs.declared.plan.TheConstants.{MOST_SLOTS, LONGEST_HOLD}
use Rattle.smbus.specs.Answered.{Answered}
use Rattle.bundles.specs.Answers.{Answers, answers_in}
use Rattle.bundles.specs.Composed.{IsPlain}

-- the last slot, if there is one, is held
abbrev pub ends_held : List ℕ → Bool
ends_held [] = true
ends_held (hold ∷ []) = not (hold == 0)
ends_held (hold ∷ next ∷ later) = ends_held (next ∷ later)

-- holds that a line can say
pub record AreSayable (holds : List ℕ) : Type 0 where
  pub few : length holds ≤ MOST_SLOTS
  pub each : All (λ hold. hold ≤ LONGEST_HOLD) holds
  pub last : IsTrue (ends_held holds)

-- an answer that a line can say
pub record CanBeSaid (a : Answered) : Type 0 where
  pub holds : AreSayable a.holds
  pub contender : IfSome a.contender (λ c. AreSayable c.holds)

-- a text of whole lines, read as the section of a run's answers, whatever the number of its first
-- line, says these answers; no line of it is a header
pub record SaysAnswers (text : List ℕ) (said : Answers) : Type 0 where
  pub read : (number : ℕ)
      → answers_in (record { first_line = number; lines = lines text }) ≡ Ok said
  pub plain : IsPlain text

-- the same with an answer more
abbrev pub with_answer : Answers → Answered → Answers
with_answer said answer = record said { answers = said.answers ++ answer ∷ [] }

-- neither a line feed nor a carriage return, which is 13
abbrev pub is_one_line : List ℕ → Bool
is_one_line text = list_all (λ b. not (b == ascii.line_feed) && not (b == 13)) text
