use Rattle.std.specs.Prelude.{codes}
use Rattle.std.proofs.lemmas.Result.{IfOk-weaker}
use Rattle.texts.specs.Words.{lines_by_feed}
use Rattle.notes.specs.Lines.{line_at}
use Rattle.notes.specs.declared.level.Level.TheVariants.{Error}
use Rattle.text_notes.proofs.plan.plan_note.Goals as goal

pub returns : goal.returns
returns c =
    let line = line_at c.args.fault.line (lines_by_feed c.args.plan.now) in
    IfOk-weaker c.marked.result _ _
    (λ note stays. stays Error (codes "%plan") c.args.fault.line line c.in_ok-note.ensures.line)
    c.marked.ensures.line
