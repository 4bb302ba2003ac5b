use Rattle.std.proofs.Common.{drop, length}
use Rattle.std.specs.Prelude.{string_bytes}
use Rattle.std.specs.List.{zip}
use Rattle.sentences.specs.Sentences.{texts_of, words_of}
use Rattle.sentences.proofs.Telling.{Telling}
use Rattle.sentences.proofs.sentence.Sentence.told.Given as goal

abbrev pub invariant-loop-piece : goal.invariant-loop-piece
invariant-loop-piece l =
    Telling (zip (texts_of l.self.template.now) (words_of l.self))
    (drop (length l.yielded) (zip (texts_of l.self.template.now) (words_of l.self)))
    (string_bytes l.text)
