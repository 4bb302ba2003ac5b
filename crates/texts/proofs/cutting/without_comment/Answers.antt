use Rattle.std.proofs.Common.{take, sym, ap, ◌∙◌}
use Rattle.std.proofs.Math.Seq.{take-length}
use Rattle.texts.proofs.cutting.without_comment.Goals as goal

pub returns-in-Some : goal.returns-in-Some
returns-in-Some c = c.in-Some.ensures.parts.before

pub returns-in-None : goal.returns-in-None
returns-in-None c =
    sym (ap (λ n. take n c.args.line.now) c.in-None.ensures.parts ∙ take-length c.args.line.now)
