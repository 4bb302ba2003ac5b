use Rattle.std.proofs.Common.{◌≡◌, ◌≤◌, ◌+◌, length}
use denote.Shadow.{shadow}
use denote.Text.{Utf8}
use Rattle.texts.specs.Words.{lines_by_feed}
use Rattle.texts.proofs.lines.line_count.Given as goal

abbrev pub invariant-loop-below : goal.invariant-loop-below
invariant-loop-below l = record {
  text : shadow (Utf8 l.rest);
  count : l.count + length (lines_by_feed l.rest) ≡ length (lines_by_feed l.text);
  few : l.count + length l.rest ≤ length l.text;
}

abbrev pub decreases-loop-below : goal.decreases-loop-below
decreases-loop-below l = length l.rest
