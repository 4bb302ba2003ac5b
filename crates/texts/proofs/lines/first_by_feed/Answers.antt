use Rattle.std.proofs.Common.{sym, ◌∙◌}
use Rattle.texts.proofs.FirstLines.{first_fed, last_fed}
use Rattle.texts.proofs.lines.first_by_feed.Goals as goal

pub returns-in-Some-clause-lines : goal.returns-in-Some-clause-lines
returns-in-Some-clause-lines c = first_fed c.args.text.now _ _ c.in-Some.ensures.parts

pub returns-in-None-clause-lines : goal.returns-in-None-clause-lines
returns-in-None-clause-lines c =
    last_fed c.args.text.now c.in-None.ensures.parts
    (sym c.is_empty.ensures ∙ c.if-is_empty.false)
