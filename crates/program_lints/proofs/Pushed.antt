-- Lints that are pushed place by place.
use Rattle.std.proofs.Common.{◌≡◌, ◌∙◌, ◌++◌, ◌+◌, ℕ, suc, List, Option, Some, ap, subst, arith}
use Rattle.std.proofs.Common.{append_assoc, slice_get}
use Rattle.board.specs.Boards.{Board}
use Rattle.seq_program.specs.declared.instr.Instr.{Instr}
use Rattle.facts.specs.domain.Rows.{Row}
use Rattle.facts.specs.domain.Sets.{Set}
use Rattle.table_check.specs.Tables.{Table, row_of}
use Rattle.program_lints.specs.declared.power.PowerStates.{PowerStates}
use Rattle.program_lints.specs.Lints.{Lints, AreFailLints, AreLintsBelow, before_voltages}
use Rattle.program_lints.specs.Lints.{need_losses, table_lints}
use Rattle.program_lints.specs.PowerStates.{may_be_on, has_voltage}
use Rattle.program_lints.specs.Telling.{TellsFails, TellsPlace}

pub of_place : (b : Board) (p : List Instr) (t : Table) (s : PowerStates) (place : ℕ) (i : Instr)
    (row : Row) (at : Option Instr) (there : Option Row) (old mid more most new : Lints)
    (on has : Set)
    → Some i ≡ at → Some row ≡ there → on ≡ may_be_on s place → has ≡ has_voltage s place
    → TellsFails b i on place old mid → more ≡ mid ++ before_voltages b row i has place
    → most ≡ more ++ need_losses b row i on place
    → new ≡ most ++ table_lints b p t row i place → TellsPlace b p t s place at there old new
of_place b p t s place i row at there old mid more most new on has here row_here on_is has_is
    fails volts needs tables =
    subst (λ x. TellsPlace b p t s place x there old new) here
    (subst (λ x. TellsPlace b p t s place (Some i) x old new) row_here (record {
      own = fails.fails ++ (voltages ++ (offs ++ rest));
      are = record {
        fails = fails.fails;
        at_fail = subst (λ (x : Set). AreFailLints b i x place fails.fails) on_is fails.are;
        told = ap (λ xs. fails.fails ++ xs)
            (ap (λ (x : Set). before_voltages b row i x place ++ (offs ++ rest)) has_is
            ∙ ap (λ (x : Set). before_voltages b row i (has_voltage s place) place
            ++ (need_losses b row i x place ++ rest)) on_is);
      };
      told = tables ∙ (ap (λ xs. xs ++ rest) needs
          ∙ (append_assoc more offs rest
          ∙ (ap (λ xs. xs ++ (offs ++ rest)) volts
          ∙ (append_assoc mid voltages (offs ++ rest)
          ∙ (ap (λ xs. xs ++ (voltages ++ (offs ++ rest))) fails.told
          ∙ append_assoc old fails.fails (voltages ++ (offs ++ rest)))))));
    }))
  where
    voltages : Lints
    voltages = before_voltages b row i has place

    offs : Lints
    offs = need_losses b row i on place

    rest : Lints
    rest = table_lints b p t row i place

pub one_place : (b : Board) (p : List Instr) (t : Table) (s : PowerStates) (place : ℕ)
    (old new : Lints) → AreLintsBelow b p t s place old
    → TellsPlace b p t s place (slice_get p place) (row_of t place) old new
    → AreLintsBelow b p t s (place + 1) new
one_place b p t s place old new below tells =
    let next : suc place ≡ place + 1 = omega arith in
    subst (λ n. AreLintsBelow b p t s n new) next
    (old, tells.own, tells.told, below, tells.are)
