-- What it means that a function reads a part of a program.
use Rattle.std.specs.Prelude.{Result}
use Rattle.texts.specs.Reading.{GivesUnless}
use Rattle.seq_program.specs.declared.fault.ProgramFault.{ProgramFault}
use Rattle.seq_program.specs.declared.fault.ProgramFault.TheVariants.{Memory}

-- what a function returned, seen by view, is what reading gives, unless memory ran out
abbrev pub Gives : {X Y : Type 0} → (X → Y) → Result X ProgramFault → Result Y ProgramFault → Type 0
Gives view result read = GivesUnless Memory view result read
