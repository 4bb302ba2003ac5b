use Rattle.texts.proofs.CutParts.{parts_at, shorter_behind}
use Rattle.texts.proofs.words.cut_at_space.Goals as goal

pub returns-clause-parts : goal.returns-clause-parts
returns-clause-parts c = parts_at 32 c.args.line.now c.cut_at.result c.cut_at.ensures.parts

pub returns-clause-shorter : goal.returns-clause-shorter
returns-clause-shorter c =
    shorter_behind 32 c.args.line.now c.cut_at.result c.cut_at.ensures.parts
