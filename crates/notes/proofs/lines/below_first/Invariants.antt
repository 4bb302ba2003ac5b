use Rattle.std.proofs.Common.{◌≡◌, drop, length}
use denote.Shadow.{shadow}
use denote.Text.{Utf8}
use Rattle.texts.specs.Words.{lines_by_feed}
use Rattle.notes.proofs.lines.below_first.Given as goal

abbrev pub invariant-loop-below : goal.invariant-loop-below
invariant-loop-below l = record {
  text : shadow (Utf8 l.rest);
  value : drop l.left (lines_by_feed l.rest) ≡ drop l.count (lines_by_feed l.text);
}

abbrev pub decreases-loop-below : goal.decreases-loop-below
decreases-loop-below l = length l.rest
