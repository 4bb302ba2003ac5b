use Rattle.bundles.specs.CountedLines.{counted_lines}
use Rattle.bundles.specs.Views.{section_view}
use Rattle.bundles.proofs.CheckedLines.{AreChecked}
use Rattle.bundles.proofs.answer_list.check_lines.Given as goal

abbrev pub invariant-loop-first : goal.invariant-loop-first
invariant-loop-first l =
    AreChecked (counted_lines (section_view l.section)) (counted_lines (section_view l.rest))

abbrev pub decreases-loop-first : goal.decreases-loop-first
decreases-loop-first l = l.rest.count
