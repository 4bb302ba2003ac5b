use Rattle.std.proofs.Common.{sym, arith}
use Rattle.std.proofs.Math.ListN.{drop_of_length-le}
use Rattle.texts.proofs.cutting.comment_in.Goals as goal

pub returns-in-Some : goal.returns-in-Some
returns-in-Some c = c.in-Some.ensures.parts.behind

pub returns-in-None : goal.returns-in-None
returns-in-None c =
    sym (drop_of_length-le c.args.line.now (omega (arith, c.in-None.ensures.parts)))
