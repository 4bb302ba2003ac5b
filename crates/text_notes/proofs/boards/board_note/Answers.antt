use Rattle.std.specs.Prelude.{codes}
use Rattle.texts.specs.Words.{lines_by_feed}
use Rattle.notes.specs.Lines.{line_at}
use Rattle.notes.specs.declared.level.Level.TheVariants.{Error}
use Rattle.text_notes.proofs.boards.board_note.Goals as goal

pub returns : goal.returns
returns c =
    let number = c.number_within-number.result in
    let lines = lines_by_feed c.args.text.now in
    let on = c.in_ok-marked.ensures.line Error (codes "%board") number (line_at number lines)
    c.in_ok-note.ensures.line in
    record {
      memory = λ is. absurd (c.in_default.not-Memory is);
      line = λ not. (number, (c.number_within-number.ensures, on));
    }
