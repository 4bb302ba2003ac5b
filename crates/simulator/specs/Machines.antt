-- The machine that runs a program on a board, and what one step of it leaves to be seen.
use Rattle.std.specs.Prelude.{◌<◌, ℕ, List, length, replicate, Option}
use Rattle.wires.specs.declared.lines.Sample.{Sample}
use Rattle.board.specs.Boards.{Board}
use Rattle.seq_program.specs.declared.instr.Instr.{Instr}
use Rattle.targets.specs.declared.outcome.Outcome.{Outcome}
use Rattle.targets.specs.States.{BusState, Belongs}
use Rattle.simulator.specs.declared.machine.Ending.{Ending}
use Rattle.simulator.specs.declared.machine.Ending.TheVariants.{Running}

pub record Machine : Type 0 where
  pub place : ℕ
  pub regs : List ℕ
  pub counters : List ℕ
  pub bus : BusState
  pub ended : Ending

-- a step: its place, the state before it, the lines tick by tick, and how its message ended, if it
-- sent one
pub record Entry : Type 0 where
  pub place : ℕ
  pub before : BusState
  pub samples : List Sample
  pub outcome : Option Outcome
  pub ticks : ℕ

-- these values of PAGE and WRITE_PROTECT, nobody alerts, and no arbitration was lost
abbrev pub start_state : List ℕ → List ℕ → BusState
start_state pages protects =
    record { page = pages; protect = protects; alerting = 0; lost = 0 }

-- at place 0, with registers and counters 0
abbrev pub start_at : BusState → Machine
start_at s =
    record { place = 0; regs = replicate 8 0; counters = replicate 4 0; bus = s; ended = Running }

-- a machine of the board and the program
pub record IsMachine (b : Board) (p : List Instr) (m : Machine) : Type 0 where
  pub place : m.place < length p
  pub bus : Belongs b m.bus
