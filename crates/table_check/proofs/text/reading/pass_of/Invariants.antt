use Rattle.std.proofs.Common.{◌≡◌, ◌≤◌, ◌+◌, length}
use denote.Shadow.{shadow}
use denote.Text.{Utf8}
use Rattle.texts.specs.Words.{lines_by_feed}
use Rattle.table_check.specs.text.Passes.{after_lines, pass_view, no_pass, first_number}
use Rattle.table_check.proofs.text.reading.pass_of.Given as goal

abbrev pub invariant-loop-line : goal.invariant-loop-line
invariant-loop-line l = record {
  text : shadow (Utf8 l.rest);
  few : l.number + length l.rest ≤ length l.text + 2;
  value : after_lines l.board l.number (pass_view l.pass) (lines_by_feed l.rest)
      ≡ after_lines l.board (first_number l.fn.version) (no_pass l.fn.version)
      (lines_by_feed l.text);
}

abbrev pub decreases-loop-line : goal.decreases-loop-line
decreases-loop-line l = length l.rest
