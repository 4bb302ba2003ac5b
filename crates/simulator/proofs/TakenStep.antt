-- There is a step that sends a message: a value is written to OPERATION of a target.
use Rattle.std.proofs.Common.{◌≡◌, ◌≤◌, Some, slice_get, List, [], ◌∷◌, length, refl, arith}
use Rattle.std.proofs.Common.{lit≤, lit<}
use Rattle.board.specs.Boards.{Target}
use Rattle.targets.specs.StateLaws.{StartsBelong}
use Rattle.targets.specs.SomeAnswer.{SomeCase}
use Rattle.seq_program.specs.declared.instr.Instr.TheVariants as instr
use Rattle.simulator.specs.Machines.{start_at}
use Rattle.simulator.specs.StepLaws.{SomeStepIsTaken}
use Rattle.simulator.proofs.PlainSteps.{plain, plain_step, entry_by, next_by}
use Rattle.simulator.proofs.SeenSteps.{starts_are_ready}
use Rattle.simulator.proofs.UnsafePrograms.{two_places}
use Rattle.simulator.proofs.WithdrawnNeed.{takes_byte, turning, turn, sends_turn}

taken : StartsBelong → (c : SomeCase) (t : Target) → slice_get c.board.targets 0 ≡ Some t
    → SomeStepIsTaken
unfolding plain_step
taken starts c t at =
    let off = turning 0 0x00 1 in
    let p = off ∷ instr.End ∷ [] in
    let m = turn t 0x00 in
    let machine = start_at c.state in
    let program = two_places off (takes_byte, lit≤ tt) (lit< tt) in
    let sends = sends_turn c.board p machine 0 0x00 1 t at refl refl in
    record {
      board = c.board;
      program = p;
      machine = machine;
      answer = plain 0;
      entry = entry_by off m 0 machine;
      next = next_by off m 0 machine;
      is_board = c.is_board;
      is_program = program;
      ready = starts_are_ready starts c.board p c.state c.is_board program c.is_start;
      step = plain_step c.board p machine off m 0 sends;
      message = m;
      sends = sends.message;
    }

first_target : (ts : List Target) → 1 ≤ length ts → (t : Target) × (slice_get ts 0 ≡ Some t)
first_target [] some = absurd (omega arith)
first_target (t ∷ ts) some = (t, refl)

pub some_step_is_taken : StartsBelong → SomeCase → SomeStepIsTaken
some_step_is_taken starts c =
    let first = first_target c.board.targets c.is_board.one_target in
    taken starts c first.0 first.1
