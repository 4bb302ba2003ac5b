use Rattle.std.proofs.Common.{◌≡◌, ◌++◌, All, drop, map}
use Rattle.std.specs.List.{filter_map}
use Rattle.notes.specs.Lines.{FindsIn}
use Rattle.texts.specs.Words.{lines_by_feed}
use Rattle.diagnostics.specs.ProgramWarnings.{IsProgramWarning, warned_line}
use Rattle.diagnostics.proofs.warning.program_warning.lint_warnings.Given as goal

-- so far each lint that isn't allowed has a warning on its line
abbrev pub invariant-loop-lint : goal.invariant-loop-lint
invariant-loop-lint l = record {
  finds : FindsIn (lines_by_feed l.text) l.lines;
  each : All (IsProgramWarning (lines_by_feed l.text)) l.warnings.items;
  told : map (λ n. n.line) l.warnings.items
      ++ filter_map (warned_line (lines_by_feed l.text)) (drop l.lint-index l.lints)
      ≡ filter_map (warned_line (lines_by_feed l.text)) l.lints;
}
