use Rattle.std.proofs.Common.{arith, length-take}
use Rattle.std.specs.Str.Lines.{lines}
use Rattle.bundles.specs.Views.{section_view}
use Rattle.bundles.proofs.CheckedLines.{few_answers}
use Rattle.bundles.proofs.answer_list.AnswerLines.copied.Goals as goal

pub returns-clause-few : goal.returns-clause-few
returns-clause-few c =
    let few = few_answers (section_view c.self.inside.section) in
    let most = length-take c.self.inside.section.count (lines c.self.inside.section.text.now) in
    omega (arith, few, most, c.self.inside.section.in_range)
