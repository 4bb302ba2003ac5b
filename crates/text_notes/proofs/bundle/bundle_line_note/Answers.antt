use Rattle.std.proofs.Common.{ℕ, subst}
use Rattle.std.specs.Prelude.{codes}
use Rattle.std.proofs.lemmas.Result.{IfOk-weaker}
use Rattle.texts.specs.Words.{lines_by_feed}
use Rattle.notes.specs.Lines.{line_at}
use Rattle.notes.specs.Notes.{IsOn}
use Rattle.notes.specs.declared.level.Level.TheVariants.{Error}
use Rattle.text_notes.specs.BundleLines.{line_in}
use Rattle.text_notes.proofs.bundle.bundle_line_note.Goals as goal

pub returns : goal.returns
returns c =
    let lines = lines_by_feed c.args.text.now in
    let on = subst (λ (line : ℕ). IsOn Error (codes "bundle") line lines c.in_ok-note.note)
    c.line_in.ensures c.in_ok-note.ensures.line in
    IfOk-weaker c.marked.result _ _
    (λ note stays. stays Error (codes "bundle") (line_in c.args.fault)
    (line_at (line_in c.args.fault) lines) on) c.marked.ensures.line
