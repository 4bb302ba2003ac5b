use Rattle.std.specs.Prelude.{codes, option_copied}
use Rattle.std.proofs.lemmas.Result.{IfOk-weaker}
use Rattle.notes.specs.declared.level.Level.TheVariants.{Error}
use Rattle.text_notes.proofs.program.Written.note_on.Goals as goal

pub returns : goal.returns
returns c =
    IfOk-weaker c.marked.result _ _
    (λ note stays. stays Error (codes "%program") c.args.number (option_copied c.args.line)
    c.in_ok-note.ensures.line) c.marked.ensures.line
