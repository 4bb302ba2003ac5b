-- What a draft is asked with: a board, and the text of a plan.
use Rattle.std.specs.Prelude.{ℕ, List, Result, Ok, string_bytes}
use Rattle.texts.specs.Reading.{◌>>=◌}
use Rattle.board.specs.Boards.{Board}
use Rattle.bundles.specs.Bundles.{Section}
use Rattle.session.specs.declared.fault.InputFault.{InputFault}
use Rattle.session.specs.declared.planned.Planned.{Planned as PlannedCode}
use Rattle.session.specs.SectionTexts.{section_text}
use Rattle.session.specs.Sequences.{board_in}

pub record Planned : Type 0 where
  pub board : Board
  pub plan : List ℕ

abbrev pub planned_view : PlannedCode → Planned
planned_view p = record { board = p.board; plan = string_bytes p.plan }

-- the sections in order
unfoldable pub planned_in : Section → Section → Result Planned InputFault
planned_in on plan = do
  board ← board_in on
  Ok (record { board = board; plan = section_text plan })
