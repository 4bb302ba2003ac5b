-- A run's answers that are written one after another.
use Rattle.std.proofs.Common.{◌≡◌, ◌<◌, ◌≤◌, ℕ, ◌+◌, List, [], ◌∷◌, ◌++◌, length, drop, take}
use Rattle.std.proofs.Common.{Option, codes, sym, ap, subst, ◌∙◌, append_assoc, get_or}
use Rattle.std.proofs.lemmas.List.{append-nil, at_drop_more, drop_all, take_all, take_more}
use Rattle.smbus.specs.Answered.{Answered}
use Rattle.bundles.specs.Answers.{Answers}
use Rattle.bundles.specs.AnswerLineTexts.{answer_text, answer_lines_text, with_line, run_text}
use Rattle.bundles.specs.AnswerLineTexts.{started_text}
use Rattle.bundles.specs.AnswerTexts.{SaysAnswers, with_answer}

-- a run up to an answer of an index
abbrev pub said_until : List ℕ → List ℕ → List Answered → ℕ → Answers
said_until pages protects answers i =
    record { pages = pages; protects = protects; answers = take i answers }

-- what is written of it, and what it says
pub record IsSaidUntil (comment : Option (List ℕ)) (pages protects : List ℕ)
    (answers : List Answered) (i : ℕ) (text : List ℕ) : Type 0 where
  pub whole : text ++ answer_lines_text (drop i answers)
      ≡ run_text comment (record { pages = pages; protects = protects; answers = answers })
  pub said : SaysAnswers text (said_until pages protects answers i)

pub said_none : (comment : Option (List ℕ)) (pages protects : List ℕ) (answers : List Answered)
    (text : List ℕ) → text ≡ started_text comment pages protects
    → SaysAnswers text (record { pages = pages; protects = protects; answers = [] })
    → IsSaidUntil comment pages protects answers 0 text
said_none comment pages protects answers text is said = record {
  whole = ap (λ (t : List ℕ). t ++ answer_lines_text answers) is;
  said = said;
}

-- an answer more
pub said_more : (comment : Option (List ℕ)) (pages protects : List ℕ) (answers : List Answered)
    (i : ℕ) (text new : List ℕ) (a : Answered) → IsSaidUntil comment pages protects answers i text
    → i < length answers → get_or answers i a ≡ a → new ≡ with_line text (answer_text a)
    → ((said : Answers) → SaysAnswers text said → SaysAnswers new (with_answer said a))
    → IsSaidUntil comment pages protects answers (i + 1) new
said_more comment pages protects answers i text new a h lt is added says =
    let line : List ℕ = answer_text a ++ codes "\n" in
    let rest : List ℕ = answer_lines_text (drop (i + 1) answers) in
    let here : answer_text (get_or answers i a) ++ codes "\n" ≡ line =
    ap (λ (x : Answered). answer_text x ++ codes "\n") is in
    let longer : take i answers ++ a ∷ [] ≡ take (i + 1) answers =
    ap (λ (x : Answered). take i answers ++ x ∷ []) (sym is) ∙ sym (take_more answers i a lt) in
    record {
      whole =
          ap (λ (t : List ℕ). t ++ rest) added
          ∙ append_assoc text line rest
          ∙ ap (λ (l : List ℕ). text ++ (l ++ rest)) (sym here)
          ∙ sym
          (at_drop_more (λ (left : List Answered). text ++ answer_lines_text left) answers i a lt)
          ∙ h.whole;
      said =
          subst (λ (left : List Answered).
          SaysAnswers new (record { pages = pages; protects = protects; answers = left })) longer
          (says (said_until pages protects answers i) h.said);
    }

-- no answer more
pub said_all : (comment : Option (List ℕ)) (pages protects : List ℕ) (answers : List Answered)
    (i : ℕ) (text : List ℕ) → IsSaidUntil comment pages protects answers i text
    → length answers ≤ i
    → (text ≡ run_text comment (record { pages = pages; protects = protects; answers = answers }))
    × SaysAnswers text (record { pages = pages; protects = protects; answers = answers })
said_all comment pages protects answers i text h le = (
  sym (append-nil text)
      ∙ ap (λ (left : List Answered). text ++ answer_lines_text left) (sym (drop_all i answers le))
      ∙ h.whole,
  subst (λ (left : List Answered).
      SaysAnswers text (record { pages = pages; protects = protects; answers = left }))
      (take_all i answers le) h.said,
)
