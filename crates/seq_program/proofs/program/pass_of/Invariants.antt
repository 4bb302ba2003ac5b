use Rattle.std.proofs.Common.{◌≡◌, ◌≤◌, ◌+◌, length}
use denote.Shadow.{shadow}
use denote.Text.{Utf8}
use Rattle.texts.specs.Words.{lines_by_feed}
use Rattle.seq_program.specs.Passes.{after_lines}
use Rattle.seq_program.specs.PassViews.{labels_view, pass_view, AreInstrsSoFar}
use Rattle.seq_program.specs.Programs.{no_pass}
use Rattle.seq_program.proofs.program.pass_of.Given as goal

abbrev pub invariant-loop-line : goal.invariant-loop-line
invariant-loop-line l = record {
  text : shadow (Utf8 l.rest);
  few : l.number + length l.rest ≤ length l.text + 1;
  said : AreInstrsSoFar (length l.board.targets) (labels_view l.labels) l.pass;
  value : after_lines l.board (labels_view l.labels) l.number (pass_view l.pass)
      (lines_by_feed l.rest)
      ≡ after_lines l.board (labels_view l.labels) 1 no_pass (lines_by_feed l.text);
}

abbrev pub decreases-loop-line : goal.decreases-loop-line
decreases-loop-line l = length l.rest
