use Rattle.std.proofs.Common.{◌≤◌, ◌+◌, All, length}
use denote.Text.{Utf8}
use denote.Shadow.{shadow}
use Rattle.texts.specs.Words.{lines_by_feed}
use Rattle.plans.specs.WishLines.{IsWishOn}
use Rattle.plans.proofs.LinesRead.{IsReadTo}
use Rattle.plans.proofs.reading.read_plan.Given as goal

abbrev pub invariant-loop-line : goal.invariant-loop-line
invariant-loop-line l = record {
  text : shadow (Utf8 l.rest);
  few : l.number + length l.rest ≤ length l.text + 1;
  read : IsReadTo l.board (lines_by_feed l.text) (lines_by_feed l.rest) l.number
      l.plan.wishes.items;
  fits : All (λ wish. IsWishOn (length l.board.rails) (length l.board.targets) wish)
      l.plan.wishes.items;
}

abbrev pub decreases-loop-line : goal.decreases-loop-line
decreases-loop-line l = length l.rest
