use Rattle.std.proofs.Common.{◌≡◌, ◌++◌, drop}
use Rattle.std.specs.List.{filter_map}
use Rattle.notes.specs.Lines.{FindsIn}
use Rattle.texts.specs.Words.{lines_by_feed}
use Rattle.diagnostics.specs.LabelWarnings.{unused_line}
use Rattle.diagnostics.proofs.warning.label_warning.not_allowed.Given as goal

-- so far each line is there on which it isn't allowed
abbrev pub invariant-loop-number : goal.invariant-loop-number
invariant-loop-number l = record {
  finds : FindsIn (lines_by_feed l.text) l.lines;
  told : l.told.items
      ++ filter_map (unused_line (lines_by_feed l.text)) (drop l.number-index l.numbers)
      ≡ filter_map (unused_line (lines_by_feed l.text)) l.numbers;
}
