-- What a sentence says.
use Rattle.std.specs.Prelude.{◌≡◌, ◌==◌, ℕ, List, [], ◌∷◌, Option, Some, None, IfSome}
use Rattle.std.specs.Prelude.{IsSomeAnd, option_map, replicate, string_bytes}
use Rattle.std.specs.Fmt.{◌++?◌}
use Rattle.std.specs.List.{slice_split, zip}
use Rattle.sentences.specs.declared.advice.Advice.{Advice}
use Rattle.sentences.specs.declared.advice.Remark.{Remark}
use Rattle.sentences.specs.declared.sentence.Sentence.{Sentence}
use Rattle.sentences.specs.declared.word.Word.{Word}
use Rattle.sentences.specs.declared.word.Word.TheVariants.{Nothing}
use Rattle.sentences.specs.Words.{said}

-- texts, and behind each a word
abbrev pub told_of : List (List ℕ × Word) → Option (List ℕ)
told_of [] = Some []
told_of (part ∷ parts) = Some part.0 ++? (said part.1 ++? told_of parts)

-- the texts of a template, which has a 0 in the place of each word
abbrev pub texts_of : List ℕ → List (List ℕ)
texts_of template = slice_split (λ byte. byte == 0) template

-- its words, and behind the last text none
abbrev pub words_of : Sentence → List Word
words_of s = s.first ∷ s.second ∷ s.third ∷ s.fourth ∷ Nothing ∷ []

-- a sentence's texts, with its words between them
abbrev pub sentence_text : Sentence → Option (List ℕ)
sentence_text s = told_of (zip (texts_of s.template.now) (words_of s))

-- a text is a sentence's, where its names are ASCII
abbrev pub Tells : Sentence → List ℕ → Type 0
Tells s text = IfSome (sentence_text s) (λ told. text ≡ told)

-- the same, if there is a sentence
abbrev pub TellsIfSome : Option Sentence → Option (List ℕ) → Type 0
TellsIfSome None text = text ≡ None
TellsIfSome (Some s) text = IsSomeAnd text (Tells s)

-- what is said of a fault, and what may help
pub record TellsAdvice (advice : Advice) (remark : Remark) : Type 0 where
  pub message : Tells advice.message (string_bytes remark.message)
  pub help : TellsIfSome advice.help (option_map string_bytes remark.help)

-- a template without words
pub record IsPlain (text : List ℕ) (s : Sentence) : Type 0 where
  pub template : s.template.now ≡ text
  pub words : words_of s ≡ replicate 5 Nothing

-- the same template, with a word before the first three
pub record IsLedBy (word : Word) (old new : Sentence) : Type 0 where
  pub template : new.template ≡ old.template
  pub words : words_of new ≡ word ∷ old.first ∷ old.second ∷ old.third ∷ Nothing ∷ []

-- a message with help that is a text already
pub record IsHelpedBy (message : Sentence) (text : Option (List ℕ)) (remark : Remark)
    : Type 0 where
  pub says : Tells message (string_bytes remark.message)
  pub helps : option_map string_bytes remark.help ≡ text

-- a message with a text that may help
pub record IsWithText (text : List ℕ) (s : Sentence) (advice : Advice) : Type 0 where
  pub says : advice.message ≡ s
  pub helps : IsSomeAnd advice.help (λ help. Tells help text)
