-- What it means that a function reads a part of a board.
use Rattle.std.specs.Prelude.{Option, Some, None, Result, Ok, Err}
use Rattle.texts.specs.Reading.{GivesUnless}
use Rattle.board.specs.declared.fault.BoardFault.{BoardFault}
use Rattle.board.specs.Sites.{out_of_memory}

-- what a function returned, seen by view, is what reading gives, unless memory ran out
abbrev pub Gives : {X Y : Type 0} → (X → Y) → Result X BoardFault → Result Y BoardFault → Type 0
Gives view result read = GivesUnless out_of_memory view result read

-- the value where nothing is wrong, else the fault of what is
abbrev pub unless_wrong : {W A : Type 0} → (W → BoardFault) → Option W → A → Result A BoardFault
unless_wrong fault None x = Ok x
unless_wrong fault (Some wrong) x = Err (fault wrong)
