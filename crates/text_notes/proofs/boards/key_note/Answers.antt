use Rattle.std.proofs.Common.{Option, List, ℕ, subst}
use Rattle.std.specs.Prelude.{codes}
use Rattle.std.proofs.lemmas.Result.{IfOk-weaker}
use Rattle.texts.specs.Words.{lines_by_feed}
use Rattle.notes.specs.Notes.{IsQuoting}
use Rattle.text_notes.specs.Boards.{IsOnBoardLine}
use Rattle.text_notes.proofs.boards.key_note.Goals as goal

pub returns : goal.returns
returns c =
    let number = c.line_or_first-number.result.number in
    let there = c.line_or_first-number.ensures in
    IfOk-weaker c.note_on.result _ (IsOnBoardLine c.args.level (lines_by_feed c.args.text.now))
    (λ note quotes. (
      number,
      (
        there.number,
        subst (λ (line : Option (List ℕ)).
            IsQuoting c.args.level (codes "%board") number line note) there.line quotes,
      ),
    )) c.note_on.ensures.line
