use Rattle.std.proofs.Common.{◌≡◌, ◌≤◌}
use Rattle.bundles.specs.CountedLines.{counted_lines}
use Rattle.bundles.specs.Views.{section_view}
use Rattle.bundles.proofs.counted.first_counted.Given as goal

abbrev pub invariant-loop-line : goal.invariant-loop-line
invariant-loop-line l = record {
  same : counted_lines (section_view l.rest) ≡ counted_lines (section_view l.section);
  few : l.rest.count ≤ l.section.count;
}

abbrev pub decreases-loop-line : goal.decreases-loop-line
decreases-loop-line l = l.rest.count
