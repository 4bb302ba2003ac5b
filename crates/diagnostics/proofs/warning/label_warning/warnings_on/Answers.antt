use Rattle.std.proofs.Common.{◌+◌, ◌∷◌, ◌++◌, ◌∙◌, ℕ, List, [], Option, All, ap, append_assoc}
use Rattle.std.proofs.Common.{drop, map, slice_index_or, subst, sym}
use Rattle.std.specs.Prelude.{codes}
use Rattle.std.proofs.lemmas.List.{map_push}
use Rattle.std.proofs.lemmas.List.Elements.{All-push}
use Rattle.notes.specs.declared.level.Level.TheVariants.{Warning}
use Rattle.notes.specs.declared.note.Note.{Note}
use Rattle.notes.specs.Notes.{IsOn, IsQuoting}
use Rattle.texts.specs.Words.{lines_by_feed}
use Rattle.diagnostics.specs.ProgramWarnings.{IsProgramWarning}
use Rattle.diagnostics.proofs.ToldLines.{next_is}
use Rattle.diagnostics.proofs.warning.label_warning.warnings_on.Goals as goal

pub loop-number-preserved : goal.loop-number-preserved
loop-number-preserved c =
    let lines = lines_by_feed c.args.text.now in
    let all = c.args.numbers.now in
    let inv = c.loop-number.invariant in
    let old = c.loop-number.warnings.items in
    let number = slice_index_or all c.loop-number.number-index 0 in
    let rest = drop (c.loop-number.number-index + 1) all in
    let next = next_is all c.loop-number.number-index 0 c.loop-number-test.true in
    let note = c.in_ok-label_warning.field-0 in
    let found = c.line_at-line.ensures lines inv.finds in
    let on =
    subst (λ (line : Option (List ℕ)). IsQuoting Warning (codes "%program") number line note)
    found.1 c.in_ok-label_warning.ensures in
    let items = c.in_ok-push.ensures.items in
    record {
      finds = found.0;
      each = subst (All (IsProgramWarning lines)) (sym items)
          (All-push (IsProgramWarning lines) old note inv.each
          (subst (λ (n : ℕ). IsOn Warning (codes "%program") n lines note) (sym on.on_line) on));
      on = ap (λ (notes : List Note). map (λ (n : Note). n.line) notes ++ rest) items
          ∙ ap (λ (xs : List ℕ). xs ++ rest) (map_push (λ (n : Note). n.line) old note)
          ∙ append_assoc (map (λ (n : Note). n.line) old) (note.line ∷ []) rest
          ∙ ap (λ (n : ℕ). map (λ (n : Note). n.line) old ++ n ∷ rest) on.on_line
          ∙ ap (λ (xs : List ℕ). map (λ (n : Note). n.line) old ++ xs) (sym next) ∙ inv.on;
    }
