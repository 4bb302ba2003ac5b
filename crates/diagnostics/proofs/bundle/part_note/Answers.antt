use Rattle.std.proofs.Common.{◌-◌, ◌∙◌, ℕ, List, IfOk, ap, subst}
use Rattle.texts.specs.Words.{lines_by_feed}
use Rattle.bundles.specs.Bundles.{header_text}
use Rattle.bundles.specs.Views.{section_view}
use Rattle.session.specs.SectionTexts.{section_text}
use Rattle.notes.specs.declared.level.Level.TheVariants.{Error}
use Rattle.notes.specs.Notes.{IsOn}
use Rattle.diagnostics.proofs.bundle.part_note.Goals as goal

pub returns : goal.returns
returns c =
    let section = section_view c.args.section.now in
    let lines = lines_by_feed (section_text section) in
    let header = header_text c.args.header in
    let shown = ap lines_by_feed (c.deref.ensures ∙ c.in_ok-text.ensures) in
    let counted = c.saturating_sub-number.ensures
    ∙ ap (λ (n : ℕ). c.args.line - n) c.saturating_sub.ensures in
    let of_text = subst (λ (ls : List (List ℕ)).
    IfOk c.flaw_note.result (IsOn Error header c.saturating_sub-number.result ls)) shown
    c.flaw_note.ensures in
    subst (λ (n : ℕ). IfOk c.flaw_note.result (IsOn Error header n lines)) counted of_text
