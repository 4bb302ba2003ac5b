use Rattle.std.proofs.Common.{◌≡◌, ◌||◌, ℕ, List, length}
use denote.Shadow.{shadow}
use denote.Text.{Utf8}
use Rattle.texts.specs.Words.{lines_by_feed}
use Rattle.program_lints.specs.UnusedLabels.{is_among, is_jumped_to}
use Rattle.program_lints.proofs.unused_label.ends_of.Given as goal

-- the ends so far, and those that are left, are all
abbrev pub invariant-loop-line : goal.invariant-loop-line
invariant-loop-line l = record {
  text : shadow (Utf8 l.rest);
  ends : (name : List ℕ) → (is_among l.ends name || is_jumped_to (lines_by_feed l.rest) name)
      ≡ is_jumped_to (lines_by_feed l.text) name;
}

abbrev pub decreases-loop-line : goal.decreases-loop-line
decreases-loop-line l = length l.rest
