use Rattle.std.proofs.Common.{All, length, subst, sym, ap, ◌∙◌, ◌+◌}
use Rattle.std.proofs.lemmas.List.{length_push}
use Rattle.std.proofs.lemmas.List.Elements.{All-push}
use Rattle.texts.specs.Words.{lines_by_feed}
use Rattle.notes.specs.declared.level.Level.TheVariants.{Warning}
use Rattle.text_notes.specs.Boards.{IsOnBoardLine}
use Rattle.text_notes.proofs.boards.lint_notes.Goals as goal

pub loop-lint-preserved : goal.loop-lint-preserved
loop-lint-preserved c =
    let lines = lines_by_feed c.args.text.now in
    record {
      lines = subst (All (IsOnBoardLine Warning lines)) (sym c.in_ok-push.ensures.items)
          (All-push (IsOnBoardLine Warning lines) c.loop-lint.notes.items
          c.in_ok-key_note.field-0 c.loop-lint.invariant.lines c.in_ok-key_note.ensures);
      each = ap (λ notes. length notes) c.in_ok-push.ensures.items
          ∙ length_push c.loop-lint.notes.items c.in_ok-key_note.field-0
          ∙ ap (λ n. n + 1) c.loop-lint.invariant.each;
    }
