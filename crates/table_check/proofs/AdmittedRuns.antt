-- Each machine within a run of an inductive table is admitted.
use Rattle.std.proofs.Common.{◌≡◌, ◌⊎◌, ℕ, List, [], ◌∷◌, inl, inr, arith}
use Rattle.board.specs.Boards.{Board}
use Rattle.seq_program.specs.declared.instr.Instr.{Instr}
use Rattle.simulator.specs.declared.machine.Ending.TheVariants.{Running}
use Rattle.simulator.specs.Machines.{Machine, Entry}
use Rattle.facts.specs.domain.Rows.{rank, left_of}
use Rattle.table_check.specs.Tables.{Table}
use Rattle.table_check.specs.checker.Admitted.{HasRow, IsAdmitted, StartsAreAdmitted}
use Rattle.table_check.specs.checker.Admitted.{StepsStayAdmitted}
use Rattle.table_check.specs.checker.Obligations.{bound_of}
use Rattle.table_check.proofs.Whole.{Laws, Lasts, Kept, started, stepped}

-- but for the ticks that are left
without_ticks : (b : Board) (p : List Instr) (t : Table) (m : Machine) (h : List Entry) (n : ℕ)
    → Kept b p t m h n → IsAdmitted b p t m h
without_ticks b p t m h n k = record { ready = k.ready; stands = by k.stands }
  where
    by : (m.ended ≡ Running → ⊥) ⊎ Lasts b t m h n → (m.ended ≡ Running → ⊥) ⊎ HasRow b t m h
    by (inl ended) = inl ended
    by (inr l) = inr (record { row = l.row; there = l.there; admits = l.admits })

-- with those that its row leaves it
with_ticks : (b : Board) (p : List Instr) (t : Table) (m : Machine) (h : List Entry)
    → IsAdmitted b p t m h → (n : ℕ) × Kept b p t m h n
with_ticks b p t m h k = by k.stands
  where
    by : (m.ended ≡ Running → ⊥) ⊎ HasRow b t m h → (n : ℕ) × Kept b p t m h n
    by (inl ended) = (0, record { ready = k.ready; stands = inl ended })
    by (inr l) = (
      rank l.row m.counters (left_of b m.bus),
      record {
        ready = k.ready;
        stands = inr (record {
          row = l.row;
          there = l.there;
          admits = l.admits;
          left = omega arith;
        });
      },
    )

pub starts_are_admitted : Laws → StartsAreAdmitted
starts_are_admitted laws b p t s is program table start =
    without_ticks b p t _ [] (bound_of t) (started laws b p t s is program table start)

pub steps_stay_admitted : Laws → StepsStayAdmitted
steps_stay_admitted laws b p t m next h a e is program table k step =
    let before = with_ticks b p t m h k in
    let one = stepped laws b p t is program table m h before.0 a e next before.1 step in
    without_ticks b p t next (e ∷ h) one.rest one.kept
