use Rattle.std.proofs.Common.{ℕ, subst}
use Rattle.bundles.specs.Answers.{answers_said, answer_lines_of}
use Rattle.bundles.specs.Bundles.{Line}
use Rattle.bundles.specs.CountedLines.{counted_lines}
use Rattle.bundles.specs.Views.{section_view}
use Rattle.bundles.proofs.CheckedLines.{checked_more, all_held, read_whole, all_answers}
use Rattle.bundles.proofs.CheckedLines.{nothing_left}
use Rattle.bundles.proofs.CheckedLines.{AreChecked, passed_on, fails_first}
use Rattle.bundles.proofs.answer_list.check_lines.Goals as goal

pub loop-first-preserved : goal.loop-first-preserved
loop-first-preserved c =
    let line : ℕ × Line = (c.in-Some.first.number, c.in-Some.first.line.now) in
    let checked =
    subst (AreChecked (counted_lines (section_view c.args.section.now)))
    c.in-Some.ensures.first c.loop-first.invariant in
    checked_more (counted_lines (section_view c.args.section.now))
    (counted_lines (section_view c.in-Some.first.below)) line checked
    c.in_ok-check_line.ensures.said c.in_ok-check_line.ensures.held

pub returns-in_err-check_line-clause-value : goal.returns-in_err-check_line-clause-value
returns-in_err-check_line-clause-value c =
    let lines = counted_lines (section_view c.args.section.now) in
    let checked = subst (AreChecked lines) c.in-Some.ensures.first c.loop-first.invariant in
    let error = c.in_err-check_line.field-0.0 in
    passed_on (λ _. answers_said lines) c.from_residual.result error (answer_lines_of lines)
    c.from_residual.ensures.1
    (fails_first lines (counted_lines (section_view c.in-Some.first.below))
    (c.in-Some.first.number, c.in-Some.first.line.now) error checked
    c.in_err-check_line.ensures.fault)

pub returns-clause-held : goal.returns-clause-held
returns-clause-held c =
    all_held (counted_lines (section_view c.args.section.now))
    (nothing_left _ _ c.in_default.ensures.first c.loop-first.invariant)

pub returns-clause-value : goal.returns-clause-value
returns-clause-value c =
    read_whole (counted_lines (section_view c.args.section.now))
    (all_answers _ (nothing_left _ _ c.in_default.ensures.first c.loop-first.invariant))
