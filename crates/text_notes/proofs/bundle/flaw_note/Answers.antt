use Rattle.std.proofs.Common.{ℕ, List, subst}
use Rattle.std.proofs.lemmas.Result.{IfOk-weaker}
use Rattle.texts.specs.Words.{lines_by_feed}
use Rattle.bundles.specs.Bundles.{header_text}
use Rattle.notes.specs.declared.level.Level.TheVariants.{Error}
use Rattle.notes.specs.Lines.{line_at}
use Rattle.notes.specs.Notes.{IsOn}
use Rattle.text_notes.proofs.bundle.flaw_note.Goals as goal

pub returns : goal.returns
returns c =
    let lines = lines_by_feed c.args.text.now in
    let number = c.args.number in
    let on = subst (λ (h : List ℕ). IsOn Error h number lines c.in_ok-note.note) c.text.ensures
    c.in_ok-note.ensures.line in
    IfOk-weaker c.marked.result _ _
    (λ note stays. stays Error (header_text c.args.header) number (line_at number lines) on)
    c.marked.ensures.line
