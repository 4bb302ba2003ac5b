use Rattle.std.proofs.Common.{◌≡◌, ◌+◌, ◌++◌, ◌≤◌, length}
use denote.Shadow.{shadow}
use denote.Text.{Utf8}
use Rattle.texts.specs.Words.{lines_by_feed}
use Rattle.program_lints.specs.UnusedLabels.{is_among, unused_among}
use Rattle.program_lints.proofs.unused_label.unused_among.Given as goal

-- the lines so far, and those that are left, are all
abbrev pub invariant-loop-line : goal.invariant-loop-line
invariant-loop-line l = record {
  text : shadow (Utf8 l.rest);
  few : l.number + length l.rest ≤ length l.text + 1;
  lines : l.numbers.items
      ++ unused_among (is_among l.ends) l.number (lines_by_feed l.rest)
      ≡ unused_among (is_among l.ends) 1 (lines_by_feed l.text);
}

abbrev pub decreases-loop-line : goal.decreases-loop-line
decreases-loop-line l = length l.rest
