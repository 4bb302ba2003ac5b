use Rattle.std.proofs.Common.{◌≡◌, All, IfOk, List, ℕ, length, subst}
use Rattle.texts.specs.Words.{lines_by_feed}
use Rattle.board_lints.specs.Lints.{Lints}
use Rattle.notes.specs.declared.level.Level.TheVariants.{Warning}
use Rattle.session.specs.Parts.{sections_view}
use Rattle.text_notes.specs.Boards.{IsOnBoardLine}
use Rattle.diagnostics.specs.Warnings.{WarnsOfBoard}
use Rattle.diagnostics.proofs.Results.{both_ok}
use Rattle.diagnostics.proofs.warning.board_warning.board_warnings.Goals as goal

pub returns : goal.returns
returns c =
    let found = c.in_ok-lints.lints.items in
    let On : List (List ℕ) → Type 0 = λ lines. IfOk c.lint_notes.result
    (λ notes. All (IsOnBoardLine Warning lines) notes.items) in
    let Each : Lints → Type 0 = λ lints. IfOk c.lint_notes.result
    (λ notes. length notes.items ≡ length lints) in
    both_ok c.lint_notes.result _ _
    (λ notes. WarnsOfBoard (sections_view c.args.sections.now) c.args.board.now
    c.args.program.now notes.items)
    (subst On c.in_ok-text.ensures
    (subst (λ text. On (lines_by_feed text)) c.deref.ensures c.lint_notes.ensures.lines))
    (subst Each c.deref-2.ensures.value c.lint_notes.ensures.each)
    (λ notes lines each. record {
      lines = lines;
      lints = found;
      are_lints = c.in_ok-lints.ensures;
      each = each;
    })
