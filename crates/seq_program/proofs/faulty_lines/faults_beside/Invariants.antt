use Rattle.std.proofs.Common.{◌≤◌, ◌+◌, length}
use denote.Shadow.{shadow}
use denote.Text.{Utf8}
use Rattle.texts.specs.Words.{lines_by_feed}
use Rattle.seq_program.specs.LineFaults.{faults_from}
use Rattle.seq_program.specs.PassViews.{labels_view}
use Rattle.seq_program.proofs.FaultCounts.{AreSoFar}
use Rattle.seq_program.proofs.faulty_lines.faults_beside.Given as goal

abbrev pub invariant-loop-line : goal.invariant-loop-line
invariant-loop-line l = record {
  text : shadow (Utf8 l.rest);
  few : l.number + length l.rest ≤ length l.text + 1;
  counted : l.faults.more + 1 ≤ l.number;
  met : AreSoFar l.most
      (faults_from l.board (labels_view l.labels) l.left_out 1 (lines_by_feed l.text)) l.faults
      (faults_from l.board (labels_view l.labels) l.left_out l.number (lines_by_feed l.rest));
}

abbrev pub decreases-loop-line : goal.decreases-loop-line
decreases-loop-line l = length l.rest
