use Rattle.std.proofs.Common.{◌≡◌, ◌++◌, Bor, List, ℕ, length, map}
use denote.Shadow.{shadow}
use denote.Text.{Utf8}
use Rattle.texts.specs.Words.{words_of}
use Rattle.texts.proofs.words.words_of.Given as goal

abbrev pub invariant-loop-part : goal.invariant-loop-part
invariant-loop-part l = record {
  text : shadow (Utf8 l.rest);
  value : map (λ (w : Bor (List ℕ)). w.now) l.words.items ++ words_of l.rest ≡ words_of l.line;
}

abbrev pub decreases-loop-part : goal.decreases-loop-part
decreases-loop-part l = length l.rest
