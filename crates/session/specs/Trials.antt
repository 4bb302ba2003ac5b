-- What a check is asked with: a program on its board, and the text of a table of facts.
use Rattle.std.specs.Prelude.{ℕ, List, Result, Ok, string_bytes}
use Rattle.texts.specs.Reading.{◌>>=◌}
use Rattle.board.specs.Boards.{Board}
use Rattle.seq_program.specs.declared.instr.Instr.{Instr}
use Rattle.bundles.specs.Bundles.{Section}
use Rattle.session.specs.declared.fault.InputFault.{InputFault}
use Rattle.session.specs.declared.trial.Trial.{Trial as TrialCode}
use Rattle.session.specs.SectionTexts.{section_text}
use Rattle.session.specs.Sequences.{sequence_in}

pub record Trial : Type 0 where
  pub board : Board
  pub program : List Instr
  pub table : List ℕ

abbrev pub trial_view : TrialCode → Trial
trial_view t = record { board = t.board; program = t.program; table = string_bytes t.table }

-- the sections in order
unfoldable pub trial_in : Section → Section → Section → Result Trial InputFault
trial_in on program table = do
  sequence ← sequence_in on program
  Ok (record {
    board = sequence.board;
    program = sequence.program;
    table = section_text table;
  })
