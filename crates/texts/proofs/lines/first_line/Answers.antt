use Rattle.std.proofs.Common.{sym, ◌∙◌}
use Rattle.texts.proofs.FirstLines.{first_of_lines, last_of_lines}
use Rattle.texts.proofs.lines.first_line.Goals as goal

pub returns-in-Some-clause-lines : goal.returns-in-Some-clause-lines
returns-in-Some-clause-lines c =
    rw c.without_return.ensures (first_of_lines c.args.text.now _ _ c.in-Some.ensures.parts)

pub returns-in-None-clause-lines : goal.returns-in-None-clause-lines
returns-in-None-clause-lines c =
    last_of_lines c.args.text.now c.in-None.ensures.parts
    (sym c.is_empty.ensures ∙ c.if-is_empty.false)
