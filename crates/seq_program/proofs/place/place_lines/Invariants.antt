use Rattle.std.proofs.Common.{◌≡◌, ◌≤◌, ◌+◌, ◌++◌, ℕ, List, map, filter, length}
use denote.Shadow.{shadow}
use denote.Text.{Utf8}
use Rattle.std.specs.List.{enumerate_from}
use Rattle.texts.specs.Words.{lines_by_feed}
use Rattle.seq_program.specs.Places.{has_instruction, place_lines}
use Rattle.seq_program.proofs.place.place_lines.Given as goal

-- the lines so far, and those of what is left, are all
abbrev pub invariant-loop-line : goal.invariant-loop-line
invariant-loop-line l = record {
  text : shadow (Utf8 l.rest);
  few : l.number + length l.rest ≤ length l.text + 1;
  all : l.lines.items ++ map (λ (n : ℕ × List ℕ). n.0)
      (filter (λ (n : ℕ × List ℕ). has_instruction n.1)
      (enumerate_from l.number (lines_by_feed l.rest)))
      ≡ place_lines (lines_by_feed l.text);
}

abbrev pub decreases-loop-line : goal.decreases-loop-line
decreases-loop-line l = length l.rest
