-- Programs that look at SMBALERT# and never ask who pulls it low (SMBus 3.2, appendix A).
use Rattle.std.specs.Prelude.{◌&&◌, not, Bool, true, false, List}
use Rattle.seq_program.specs.declared.instr.Instr.{Instr}
use Rattle.seq_program.specs.declared.instr.Instr.TheVariants as instr
use Rattle.table_check.specs.Tables.{Table}
use Rattle.program_lints.specs.Reached.{some_reached}

abbrev pub looks_at_alert : Instr → Bool
looks_at_alert (instr.IfAlert jump) = true
looks_at_alert _ = false

-- the instruction reads the alert response
abbrev pub asks_alert : Instr → Bool
asks_alert (instr.Alert register otherwise) = true
asks_alert _ = false

abbrev pub is_unserved : List Instr → Table → Instr → Bool
is_unserved p t i = looks_at_alert i && not (some_reached asks_alert p t)
