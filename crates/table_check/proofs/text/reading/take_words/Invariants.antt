use Rattle.std.proofs.Common.{◌≡◌, ◌++◌, Bor, List, ℕ, length, map}
use denote.Shadow.{shadow}
use denote.Text.{Utf8}
use Rattle.table_check.specs.text.Passes.{parted}
use Rattle.table_check.proofs.text.reading.take_words.Given as goal

abbrev pub invariant-loop-word : goal.invariant-loop-word
invariant-loop-word l = record {
  text : shadow (Utf8 l.rest);
  value : map (λ (w : Bor (List ℕ)). w.now) l.words.items ++ parted l.rest ≡ parted l.line;
}

abbrev pub decreases-loop-word : goal.decreases-loop-word
decreases-loop-word l = length l.rest
