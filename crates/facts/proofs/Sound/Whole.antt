-- One step from a row whose duties are met: where another controller wins over its message, and
-- where none does.
use Rattle.std.proofs.Common.{◌≡◌, ◌≤◌, ◌⊎◌, List, ◌∷◌, inl, inr}
use Rattle.std.specs.Prelude.{IsTrue}
use Rattle.board.specs.Boards.{Board}
use Rattle.seq_program.specs.declared.instr.Instr.{Instr}
use Rattle.seq_program.specs.Messages.{message_of}
use Rattle.seq_program.specs.Programs.{is_end}
use Rattle.simulator.specs.declared.machine.Ending.TheVariants.{Running}
use Rattle.simulator.specs.Machines.{Machine, Entry}
use Rattle.facts.specs.domain.Rows.{Row}
use Rattle.facts.specs.transfer.Ticks.{own_ticks}
use Rattle.facts.specs.Steps.{Leads, IsSoundStep, StepsAreSound}
use Rattle.facts.proofs.Sound.OwnLeads.{LeadsOwn, own_leads}
use Rattle.facts.proofs.Sound.OwnSteps.{Laws, IsOwnStep, seen_step, is_instr}
use Rattle.facts.proofs.Sound.LostSteps.{lost_sound}
use Rattle.facts.proofs.Sound.Local.{sound}

own_sound : (b : Board) (i : Instr) (row : Row) (m : Machine) (h : List Entry) (e : Entry)
    (next : Machine) → IsOwnStep b i row m h e next → next.bus.lost ≡ m.bus.lost
    → IsSoundStep b i row m h e next
own_sound b i row m h e next own kept = record { safe = own.safe; goes = go own.goes }
  where
    go : (((next.ended ≡ Running → ⊥) × IsTrue (is_end i))
        ⊎ ((next.ended ≡ Running) × LeadsOwn b m.place i row m next (e ∷ h)))
        → (((next.ended ≡ Running → ⊥) × IsTrue (is_end i) × (e.ticks ≤ own_ticks b i))
        ⊎ ((next.ended ≡ Running) × Leads b m.place i row m next (e ∷ h) e.ticks))
    go (inl ends) = inl (ends.0, ends.1, own.ticks)
    go (inr goes) =
        inr (goes.0, own_leads b m.place i row m next (e ∷ h) e.ticks goes.1 kept own.ticks)

pub steps_are_sound : Laws → StepsAreSound
steps_are_sound laws b p i row m h a e next k step =
    let seen = seen_step laws b p i row m h a e next k step in
    elim (laws.either b i (message_of b i m.regs) m a e next step) [
      | inl alone ↦
          own_sound b i row m h e next
          (sound laws b p i row m h a e next k (is_instr b p i row m h k) seen alone) alone.lost
      | inr lost ↦ lost_sound laws b p i row m h a e next k seen lost
    ]
