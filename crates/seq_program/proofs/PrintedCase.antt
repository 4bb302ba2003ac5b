-- Each board has a program that sends a message.
use Rattle.std.proofs.Common.{◌<◌, true, List, [], ◌∷◌, length, refl, arith, lit≤, lit<}
use Rattle.std.specs.Prelude.{IfSome}
use Rattle.std.proofs.lemmas.List.Elements.{All-from_recursion}
use Rattle.seq_program.specs.declared.instr.Instr.{Instr}
use Rattle.seq_program.specs.declared.instr.Instr.TheVariants as instr
use Rattle.seq_program.specs.Valid.{IsInstr, IsOnBoard, IsProgram, jump_in}
use Rattle.seq_program.specs.PrintedLaw.{BoardsHavePrograms}

-- a quick command to the first target
abbrev asks_first : List Instr
asks_first = instr.Quick 0 true 1 ∷ instr.End ∷ []

is_program : IsProgram asks_first
is_program = record {
  some = lit≤ tt;
  few = lit≤ tt;
  each = All-from_recursion (λ i. IsInstr i) asks_first (tt, (tt, tt));
  jumps =
      All-from_recursion (λ i. IfSome (jump_in i) (λ place. place < 2)) asks_first
      (lit< tt, (tt, tt));
  last = refl;
}

pub boards_have_programs : BoardsHavePrograms
boards_have_programs board good =
    let first : 0 < length board.targets = omega (arith, good.one_target) in
    record {
      instrs = asks_first;
      program = is_program;
      targets =
          All-from_recursion (λ i. IsOnBoard (length board.targets) i) asks_first
          (first, (tt, tt));
      sends = refl;
    }
