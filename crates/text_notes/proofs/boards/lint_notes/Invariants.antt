use Rattle.std.proofs.Common.{◌≡◌, All, length}
use Rattle.texts.specs.Words.{lines_by_feed}
use Rattle.notes.specs.declared.level.Level.TheVariants.{Warning}
use Rattle.text_notes.specs.Boards.{IsOnBoardLine}
use Rattle.text_notes.proofs.boards.lint_notes.Given as goal

-- so far each lint has a warning on some line
abbrev pub invariant-loop-lint : goal.invariant-loop-lint
invariant-loop-lint l = record {
  lines : All (IsOnBoardLine Warning (lines_by_feed l.text)) l.notes.items;
  each : length l.notes.items ≡ l.lint-index;
}
