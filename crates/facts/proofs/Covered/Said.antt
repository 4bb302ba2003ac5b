-- An instruction whose message may be sent was read for the board; a row of the board is shaped.
use Rattle.std.proofs.Common.{◌≡◌, ℕ, zero, suc, ◌<◌, ◌≤◌, List, length, refl, arith}
use Rattle.std.specs.Prelude.{slice_get, slice_index, replicate, Some}
use Rattle.board.specs.Boards.{Board}
use Rattle.seq_program.specs.declared.instr.Instr.{Instr}
use Rattle.seq_program.specs.declared.instr.Instr.TheVariants as instr
use Rattle.seq_program.specs.Valid.{IsInstr, IsProgram, IsOnBoard, IsInstrOn}
use Rattle.facts.specs.declared.duties.rule.Rule.TheVariants.{K1}
use Rattle.facts.specs.domain.Rows.{Row, IsRow, most_ticks}
use Rattle.facts.specs.duties.Duties.{Meets}
use Rattle.facts.specs.FactLaws.{IsShaped}
use Rattle.facts.proofs.Shared.Places.{all_at, within}

on_board : (b : Board) (row : Row) (i : Instr) → Meets b row i K1
    → IsOnBoard (length b.targets) i
on_board b row (instr.Quick t read l) k = within b.targets t k.target k.at
on_board b row (instr.Send t c l) k = within b.targets t k.target k.at
on_board b row (instr.Receive t r l) k = within b.targets t k.target k.at
on_board b row (instr.Write t c v l) k = within b.targets t k.target k.at
on_board b row (instr.Read t c w r l) k = within b.targets t k.target k.at
on_board b row (instr.Call t c v r l) k = within b.targets t k.target k.at
on_board b row (instr.BlockWrite t c bytes l) k = within b.targets t k.target k.at
on_board b row (instr.BlockRead t c r l) k = within b.targets t k.target k.at
on_board b row (instr.BlockCall t c bytes r l) k = within b.targets t k.target k.at
on_board b row (instr.Alert r l) k = tt
on_board b row (instr.IfAlert l) k = tt
on_board b row (instr.Set r v) k = tt
on_board b row (instr.Add r v) k = tt
on_board b row (instr.If r m v l) k = tt
on_board b row (instr.Above r v l) k = tt
on_board b row (instr.Count c v) k = tt
on_board b row (instr.Again c l) k = tt
on_board b row (instr.Wait t) k = tt
on_board b row (instr.Goto l) k = tt
on_board b row instr.End k = tt
on_board b row instr.Fail k = tt

pub is_instr : (p : List Instr) (n : ℕ) (i : Instr) → IsProgram p → slice_get p n ≡ Some i
    → IsInstr i
is_instr p n i program here = all_at (λ (x : Instr). IsInstr x) p n i program.each here

pub is_said : (b : Board) (p : List Instr) (n : ℕ) (i : Instr) (row : Row) → IsProgram p
    → slice_get p n ≡ Some i → Meets b row i K1 → IsInstrOn (length b.targets) i
is_said b p n i row program here k = (is_instr p n i program here, on_board b row i k)

pub shaped_of : (b : Board) (row : Row) → IsRow b row → IsShaped b row
shaped_of b row k = record {
  page_sets = k.page_sets;
  protect_sets = k.protect_sets;
  pages = k.pages;
  protects = k.protects;
  good = k.good;
  reg_count = k.reg_count;
  regs = k.regs;
  reg_range = k.reg_range;
  source_count = k.source_count;
  sources = k.sources;
  counter_count = k.counter_count;
  counters = k.counters;
  lost = k.lost;
  lost_range = k.lost_range;
  base = omega arith;
  coeff_count = refl;
  coeffs = λ c lt. zeros c lt;
  lost_coeff = omega arith;
}
  where
    zeros : (c : ℕ) → c < 4 → slice_index (replicate 4 0) c ≤ most_ticks
    zeros zero lt = omega arith
    zeros (suc zero) lt = omega arith
    zeros (suc (suc zero)) lt = omega arith
    zeros (suc (suc (suc zero))) lt = omega arith
    zeros (suc (suc (suc (suc c)))) lt = absurd (omega (arith, lt))
