-- A step as it is seen, and one over which no other controller wins.
use Rattle.std.proofs.Common.{◌≡◌, ◌≤◌, ◌⊎◌, Option, Some, None, List, ◌∷◌}
use Rattle.std.proofs.Common.{refl, subst}
use Rattle.std.specs.Prelude.{IsTrue}
use Rattle.smbus.specs.Asked.{Asked}
use Rattle.smbus.specs.Answered.{Answered}
use Rattle.smbus.specs.Contenders.{Contender}
use Rattle.smbus.specs.Winners.{winner, unless_won, carried}
use Rattle.board.specs.Boards.{Board}
use Rattle.seq_program.specs.declared.instr.Instr.{Instr}
use Rattle.seq_program.specs.Messages.{message_of}
use Rattle.seq_program.specs.Programs.{is_end}
use Rattle.seq_program.specs.Valid.{IsInstr}
use Rattle.simulator.specs.declared.machine.Ending.TheVariants.{Running}
use Rattle.simulator.specs.EntryLaws.{IdleReadsBack}
use Rattle.simulator.specs.Machines.{Machine, Entry}
use Rattle.simulator.specs.Safe.{IsSafe}
use Rattle.simulator.specs.SafeLaws.{AllowedFramesAreSeen}
use Rattle.simulator.specs.StepDoes.{StepDoes}
use Rattle.simulator.specs.ContendedSteps.{StepsStandAloneOrAreLost}
use Rattle.simulator.specs.StepLaws.{CarriesMessage, CarriesOver, Carries, StepsAreSeen}
use Rattle.simulator.specs.Steps.{IsStepOf}
use Rattle.facts.specs.domain.Rows.{Row}
use Rattle.facts.specs.transfer.Ticks.{own_ticks}
use Rattle.facts.specs.Steps.{Stands}
use Rattle.facts.proofs.Sound.OwnLeads.{LeadsOwn}
use Rattle.facts.proofs.Shared.Places.{all_at, same_at}

-- what the layers below give
pub record Laws : Type 0 where
  pub steps : StepsAreSeen
  pub idle : IdleReadsBack
  pub frames : AllowedFramesAreSeen
  pub either : StepsStandAloneOrAreLost

-- a step over which no other controller wins
pub record IsOwnStep (b : Board) (i : Instr) (row : Row) (m : Machine) (h : List Entry) (e : Entry)
    (next : Machine) : Type 0 where
  pub safe : IsSafe b h e
  pub ticks : e.ticks ≤ own_ticks b i
  pub goes : (((next.ended ≡ Running → ⊥) × IsTrue (is_end i))
      ⊎ ((next.ended ≡ Running) × LeadsOwn b m.place i row m next (e ∷ h)))

-- a step as it is seen
pub record SeenStep (b : Board) (o : Option Asked) (m : Machine) (a : Answered)
    (e : Entry) : Type 0 where
  pub carries : Carries b m.bus o a e
  pub does : StepDoes b m.bus (carried o a) a e

pub seen_step : Laws
    → (b : Board) (p : List Instr) (i : Instr) (row : Row) (m : Machine) (h : List Entry)
    (a : Answered) (e : Entry) (next : Machine)
    → Stands b p i row m h → IsStepOf b i (message_of b i m.regs) m a e next
    → SeenStep b (message_of b i m.regs) m a e
seen_step laws b p i row m h a e next k step =
    let seen = laws.steps b p m next a e k.board k.program k.ready
    (record { running = k.running; instr = i; here = k.here; step = step }) in
    let same : seen.instr ≡ i = same_at p m.place seen.instr i seen.here k.here in
    let P : Instr → Type 0 = λ x. Carries b m.bus (message_of b x m.regs) a e in
    let Q : Instr → Type 0 = λ x. StepDoes b m.bus (carried (message_of b x m.regs) a) a e in
    record { carries = subst P same seen.carries; does = subst Q same seen.does }

-- and where the wire carries its message
pub record SeenAlone (b : Board) (msg : Asked) (m : Machine) (a : Answered)
    (e : Entry) : Type 0 where
  pub carries : CarriesMessage m.bus msg a e
  pub does : StepDoes b m.bus (Some msg) a e

unwon : (msg : Asked) (a : Answered) → carried (Some msg) a ≡ Some msg → winner msg a ≡ None
unwon msg a kept = by (winner msg a) kept
  where
    by : (w : Option Contender) → unless_won w msg ≡ Some msg → w ≡ None
    by None kept = refl
    by (Some c) kept = cc

pub seen_alone : (b : Board) (msg : Asked) (m : Machine) (a : Answered) (e : Entry)
    → carried (Some msg) a ≡ Some msg → SeenStep b (Some msg) m a e → SeenAlone b msg m a e
seen_alone b msg m a e kept seen = record {
  carries = subst (λ (w : Option Contender). CarriesOver w b m.bus msg a e) (unwon msg a kept)
      seen.carries;
  does = subst (λ (o : Option Asked). StepDoes b m.bus o a e) kept seen.does;
}

pub is_instr : (b : Board) (p : List Instr) (i : Instr) (row : Row) (m : Machine) (h : List Entry)
    → Stands b p i row m h → IsInstr i
is_instr b p i row m h k = all_at (λ (x : Instr). IsInstr x) p m.place i k.program.each k.here
