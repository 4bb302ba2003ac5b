use Rattle.std.proofs.Common.{◌≡◌, ◌++◌, All, drop, map}
use Rattle.notes.specs.Lines.{FindsIn}
use Rattle.texts.specs.Words.{lines_by_feed}
use Rattle.diagnostics.specs.ProgramWarnings.{IsProgramWarning}
use Rattle.diagnostics.proofs.warning.label_warning.warnings_on.Given as goal

-- so far each line has a warning
abbrev pub invariant-loop-number : goal.invariant-loop-number
invariant-loop-number l = record {
  finds : FindsIn (lines_by_feed l.text) l.lines;
  each : All (IsProgramWarning (lines_by_feed l.text)) l.warnings.items;
  on : map (λ n. n.line) l.warnings.items ++ drop l.number-index l.numbers ≡ l.numbers;
}
