use Rattle.std.proofs.Common.{◌≡◌, ◌+◌, ◌≤◌, ◌<◌, length}
use denote.Shadow.{shadow}
use denote.Text.{Utf8}
use Rattle.texts.specs.Words.{lines_by_feed}
use Rattle.seq_program.specs.Labels.{labels_from, with_labels, labels_of}
use Rattle.seq_program.specs.PassViews.{labels_view}
use Rattle.seq_program.proofs.labels.labels_of.Given as goal

abbrev pub invariant-loop-line : goal.invariant-loop-line
invariant-loop-line l = record {
  text : shadow (Utf8 l.rest);
  few : l.number + length l.rest ≤ length l.text + 1;
  above : l.place < l.number;
  value : with_labels (labels_view l.labels)
      (labels_from l.number l.place (lines_by_feed l.rest))
      ≡ labels_of (lines_by_feed l.text);
}

abbrev pub decreases-loop-line : goal.decreases-loop-line
decreases-loop-line l = length l.rest
