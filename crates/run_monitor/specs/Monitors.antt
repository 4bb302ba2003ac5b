-- What a monitor sees of a run, step by step.
use Rattle.std.specs.Prelude.{◌≡◌, ◌∷◌, ℕ, List, Option, Some, None, MatchOption, slice_get}
use Rattle.smbus.specs.Answered.{Answered}
use Rattle.board.specs.Boards.{Board}
use Rattle.seq_program.specs.declared.instr.Instr.{Instr}
use Rattle.simulator.specs.declared.machine.Ending.TheVariants.{Running}
use Rattle.simulator.specs.Machines.{Machine, Entry}
use Rattle.simulator.specs.StepLaws.{IsReady}
use Rattle.simulator.specs.Steps.{IsStep}
use Rattle.facts.specs.declared.duties.rule.Rule.{Rule}
use Rattle.facts.specs.domain.Rows.{row_view}
use Rattle.facts.specs.domain.Sets.{Set, rails_in}
use Rattle.run_monitor.specs.declared.breach.Reached.{Reached}
use Rattle.run_monitor.specs.declared.monitor.Monitor.{Monitor}
use Rattle.run_monitor.specs.Known.{Knows, IsBreach, known_row}

-- the rails that a monitor knows to be good
abbrev pub good_of : Monitor → Set
good_of w = rails_in w.good

-- what is told of a machine's instruction, if it runs
abbrev pub IsToldOf : Board → List Instr → Machine → Set → Option Rule → Type 0
IsToldOf b p m good found =
    m.ended ≡ Running → (i : Instr) → slice_get p m.place ≡ Some i → IsBreach b good m i found

-- what is known to be good before a step under an answer is known behind it
abbrev pub KnowsAfter : Board → List Instr → Machine → Answered → Set → Set → Type 0
KnowsAfter b p m a old new =
    (history : List Entry) (e : Entry) (next : Machine) → IsReady b p m → IsStep b p m a e next
    → Knows b history old → Knows b (e ∷ history) new

-- no rule is broken before the step
pub record GoesWell (b : Board) (p : List Instr) (m : Machine) (a : Answered) (old new : Monitor)
    : Type 0 where
  pub none : new.found ≡ None
  pub told : IsToldOf b p m (good_of old) None
  pub knows : KnowsAfter b p m a (good_of old) (good_of new)

-- a rule is broken there
pub record ComesToBreach (b : Board) (p : List Instr) (m : Machine) (index : ℕ) (old : Monitor)
    (x : Reached) : Type 0 where
  pub running : m.ended ≡ Running
  pub told : IsToldOf b p m (good_of old) (Some x.breach.rule)
  pub at : (x.breach.index ≡ index) × (x.breach.place ≡ m.place)
  pub known : row_view x.row ≡ known_row m (good_of old)

-- what a monitor sees before a step under the answer of an index, as long as it has seen no breach
abbrev pub Sees : Board → List Instr → Machine → Answered → ℕ → Monitor → Monitor → Type 0
Sees b p m a index old new =
    MatchOption new.found (GoesWell b p m a old new) (ComesToBreach b p m index old)

-- a breach that was seen stays
abbrev pub HasSeen : Board → List Instr → Machine → Answered → ℕ → Monitor → Monitor → Type 0
HasSeen b p m a index old new =
    MatchOption old.found (Sees b p m a index old new) (λ x. new ≡ old)
