use Rattle.std.proofs.Common.{◌≡◌, ◌≤◌, ◌+◌, ℕ, List, map, filter, length}
use denote.Shadow.{shadow}
use denote.Text.{Utf8}
use Rattle.std.specs.Prelude.{slice_get}
use Rattle.std.specs.List.{enumerate_from}
use Rattle.texts.specs.Words.{lines_by_feed}
use Rattle.bundles.specs.CountedLines.{is_counted}
use Rattle.run_notes.specs.AnswerPlaces.{counted_line}
use Rattle.run_notes.proofs.counted.counted_line.Given as goal

-- as many lines that count are left to pass as stand above it
abbrev pub invariant-loop-line : goal.invariant-loop-line
invariant-loop-line l = record {
  text : shadow (Utf8 l.rest);
  few : l.number + length l.rest ≤ length l.text + 1;
  left : slice_get (map (λ (n : ℕ × List ℕ). n.0)
      (filter (λ (n : ℕ × List ℕ). is_counted n.1)
      (enumerate_from l.number (lines_by_feed l.rest)))) l.left
      ≡ counted_line l.place (lines_by_feed l.text);
}

abbrev pub decreases-loop-line : goal.decreases-loop-line
decreases-loop-line l = length l.rest
