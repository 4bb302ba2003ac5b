use Rattle.std.proofs.Common.{◌≡◌, ◌≤◌, ◌+◌, All, drop, length}
use denote.Shadow.{shadow}
use denote.Text.{Utf8}
use Rattle.texts.specs.Words.{lines_by_feed}
use Rattle.text_notes.specs.Boards.{IsNumbered}
use Rattle.text_notes.proofs.boards.lines.saying_lines.Given as goal

-- so far each line that was found stands in the text at its number
abbrev pub invariant-loop-line : goal.invariant-loop-line
invariant-loop-line l = record {
  text : shadow (Utf8 l.rest);
  few : l.above + length l.rest ≤ length l.text;
  left : lines_by_feed l.rest ≡ drop l.above (lines_by_feed l.text);
  found : All (IsNumbered (lines_by_feed l.text)) l.found.items;
}

abbrev pub decreases-loop-line : goal.decreases-loop-line
decreases-loop-line l = length l.rest
