-- Where an instruction leads, and what it does to registers and counters (docs/PROGRAM.md).
use Rattle.std.specs.Prelude.{ℕ, ◌+◌, ◌-◌, ◌==◌, Bool, if◌then◌else◌, nat_lt, min, List}
use Rattle.std.specs.Prelude.{slice_index, slice_set, Option, Some, None, unwrap_or, bit_and}
use Rattle.smbus.specs.Asked.{Asked}
use Rattle.targets.specs.declared.outcome.Outcome.{Outcome}
use Rattle.targets.specs.declared.outcome.Outcome.TheVariants.{Done}
use Rattle.targets.specs.States.{BusState}
use Rattle.seq_program.specs.declared.instr.Instr.{Instr}
use Rattle.seq_program.specs.declared.instr.Instr.TheVariants as instr
use Rattle.seq_program.specs.Requests.{result_in}
use Rattle.seq_program.specs.Valid.{jump_in}
use Rattle.simulator.specs.declared.machine.Ending.TheVariants.{Finished, Failed}
use Rattle.simulator.specs.Machines.{Machine}

-- what is read goes to its register
abbrev pub with_result : Option ℕ → ℕ → List ℕ → List ℕ
with_result None value regs = regs
with_result (Some register) value regs = slice_set regs register value

-- a message that is done goes on to the next place; any other, one that was lost to another
-- controller too, goes to its label, and no register changes
abbrev pub after_message : Instr → Outcome → Machine → Machine
after_message i (Done value) m =
    record m { place = m.place + 1; regs = with_result (result_in i) value m.regs }
after_message i other m = record m { place = unwrap_or (jump_in i) m.place }

-- the register's bits under the mask are the value
abbrev pub passes : ℕ → ℕ → ℕ → Bool
passes register mask value = bit_and register mask == value

abbrev pub to_next : Machine → Machine
to_next m = record m { place = m.place + 1 }

abbrev pub to_jump : Bool → ℕ → Machine → Machine
to_jump jumps place m = record m { place = if jumps then place else m.place + 1 }

-- an instruction that sends nothing. Some target alerts: SMBALERT# is low
abbrev pub silently : Instr → Machine → Machine
silently (instr.IfAlert jump) m = to_jump (nat_lt 0 m.bus.alerting) jump m
silently (instr.Set register value) m =
    to_next (record m { regs = slice_set m.regs register value })
silently (instr.Add register value) m = to_next (record m {
  regs = slice_set m.regs register (min (slice_index m.regs register + value) 65535);
})
silently (instr.If register mask value jump) m =
    to_jump (passes (slice_index m.regs register) mask value) jump m
silently (instr.Above register value jump) m =
    to_jump (nat_lt value (slice_index m.regs register)) jump m
silently (instr.Count counter value) m =
    to_next (record m { counters = slice_set m.counters counter value })
silently (instr.Again counter jump) m =
    to_jump (nat_lt 0 (slice_index m.counters counter)) jump
    (record m { counters = slice_set m.counters counter (slice_index m.counters counter - 1) })
silently (instr.Wait ticks) m = to_next m
silently (instr.Goto jump) m = record m { place = jump }
silently instr.End m = record m { ended = Finished }
silently instr.Fail m = record m { ended = Failed }
silently _ m = m

-- the machine after an instruction that sent this message, or none, where the targets' state is the
-- new one
abbrev pub moved : Instr → Option Asked → Outcome → BusState → Machine → Machine
moved i None outcome new m = record (silently i m) { bus = new }
moved i (Some message) outcome new m = record (after_message i outcome m) { bus = new }
