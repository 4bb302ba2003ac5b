-- What is sure at each place of a run of an accepted program.
use Rattle.std.proofs.Common.{◌≡◌, ◌∙◌, ◌⊎◌, ◌++◌, ◌≤◌, ◌<◌, ℕ, Bool, true, false, not, ◌&&◌, List}
use Rattle.std.proofs.Common.{[], ◌∷◌, length, slice_get, Some, ap, sym, subst, refl, inl, inr}
use Rattle.std.proofs.Common.{arith, append_assoc, reverse}
use Rattle.std.specs.Prelude.{IsTrue, nat_lt}
use Rattle.std.proofs.lemmas.Bool.{cases_Bool, lt-ltb}
use Rattle.std.proofs.lemmas.List.{append-nil, reverse-append}
use Rattle.smbus.specs.Answered.{Answered}
use Rattle.smbus.specs.Winners.{carried}
use Rattle.board.specs.Boards.{Board}
use Rattle.board.specs.Valid.{IsBoard}
use Rattle.targets.specs.States.{BusState, IsStart}
use Rattle.seq_program.specs.declared.instr.Instr.{Instr}
use Rattle.seq_program.specs.Messages.{message_of}
use Rattle.seq_program.specs.Programs.{is_end}
use Rattle.seq_program.specs.Valid.{IsProgram}
use Rattle.simulator.specs.declared.machine.Ending.TheVariants.{Running}
use Rattle.simulator.specs.Machines.{Machine, Entry, start_at}
use Rattle.simulator.specs.StepDoes.{StepDoes}
use Rattle.simulator.specs.StepLaws.{StepsAreSeen, StepIsSeen}
use Rattle.simulator.specs.Steps.{IsStep, IsRun}
use Rattle.facts.specs.domain.Rows.{Row, set_at}
use Rattle.facts.specs.domain.Sets.{Set}
use Rattle.facts.specs.Steps.{IsSoundStep, Leads, StepsAreSound}
use Rattle.facts.specs.transfer.Ticks.{own_ticks}
use Rattle.table_check.specs.Tables.{Table}
use Rattle.table_check.specs.checker.Admitted.{HasRow, IsAdmitted, StartsAreAdmitted}
use Rattle.table_check.specs.checker.Admitted.{StepsStayAdmitted}
use Rattle.table_check.specs.checker.ByPlace.{Follows, KeepsDuties, InductiveByPlace}
use Rattle.table_check.specs.checker.Obligations.{IsInductive}
use Rattle.program_lints.specs.Power.{IsOn, HasVoltage}
use Rattle.program_lints.specs.Changes.{After, IsOffAfter, HasVoltageAfter}
use Rattle.program_lints.specs.Closed.{IsClosed}
use Rattle.program_lints.specs.Law.{ClosedSetsAreOff, ClosedSetsHaveVoltages, others}
use Rattle.program_lints.proofs.Places.{same_at, within}
use Rattle.program_lints.proofs.Steps.{Around, stays_off, keeps_voltage}

-- the laws of the layers below
pub record Laws : Type 0 where
  pub starts : StartsAreAdmitted
  pub steps : StepsStayAdmitted
  pub by_place : InductiveByPlace
  pub sound : StepsAreSound
  pub seen : StepsAreSeen

-- what holds of a rail after a history
abbrev Fact : Type 1
Fact = List Entry → ℕ → Type 0

-- what is sure after a step holds, where what was sure before it did
abbrev StepsKeep : After → Board → Fact → Type 0
StepsKeep after b Holds =
    (i : Instr) (row : Row) (m : Machine) (h : List Entry) (a : Answered) (e : Entry)
    (next : Machine) (before : Set) (d : ℕ) → Around b i row m h a e next
    → (IsTrue (before d) → Holds h d) → after b row i next.place before d → Holds (e ∷ h) d

-- a program with a table that keeps the rule book, and sets that are closed
record Closed (after : After) (b : Board) (p : List Instr) (t : Table) (sets : List Set)
    (Holds : Fact) : Type 0 where
  pub board : IsBoard b
  pub program : IsProgram p
  pub table : IsInductive b p t
  pub closed : IsClosed after b p t sets
  pub keep : StepsKeep after b Holds

-- what is sure where a machine stands holds
abbrev HoldAt : List Set → Fact → Machine → List Entry → Type 0
HoldAt sets Holds m h = m.ended ≡ Running → (d : ℕ) → IsTrue (set_at sets m.place d) → Holds h d

does : (b : Board) (p : List Instr) (m next : Machine) (a : Answered) (e : Entry) (i : Instr)
    → StepIsSeen b p m a e next → slice_get p m.place ≡ Some i
    → StepDoes b m.bus (carried (message_of b i m.regs) a) a e
does b p m next a e i seen here =
    let P : Instr → Type 0 = λ x. StepDoes b m.bus (carried (message_of b x m.regs) a) a e in
    subst P (same_at p m.place seen.instr i seen.here here) seen.does

-- after a step
stepped : Laws → (after : After) (b : Board) (p : List Instr) (t : Table) (sets : List Set)
    (Holds : Fact) → Closed after b p t sets Holds → (m next : Machine) (h : List Entry)
    (a : Answered) (e : Entry) → IsAdmitted b p t m h → IsStep b p m a e next
    → HoldAt sets Holds m h → HoldAt sets Holds next (e ∷ h)
stepped laws after b p t sets Holds k m next h a e admitted step hold running d sure =
    by admitted.stands
  where
    by : (m.ended ≡ Running → ⊥) ⊎ HasRow b t m h → Holds (e ∷ h) d
    by (inl ended) = absurd (ended step.running)
    by (inr r) = leads sound.goes
      where
        judged : Follows b p t × KeepsDuties b p t
        judged = (laws.by_place b p t).0 k.table

        sound : IsSoundStep b step.instr r.row m h e next
        sound = laws.sound b p step.instr r.row m h a e next (record {
          board = k.board;
          program = k.program;
          here = step.here;
          shaped = judged.0.rows m.place r.row r.there;
          ready = admitted.ready;
          admits = r.admits;
          running = step.running;
          duties = judged.1 m.place step.instr r.row step.here r.there;
        }) step.step

        around : Around b step.instr r.row m h a e next
        around = record {
          board = k.board;
          admits = r.admits;
          step = step.step;
          does = does b p m next a e step.instr
              (laws.seen b p m next a e k.board k.program admitted.ready step) step.here;
        }

        leads : ((next.ended ≡ Running → ⊥) × IsTrue (is_end step.instr)
            × (e.ticks ≤ own_ticks b step.instr))
            ⊎ ((next.ended ≡ Running) × Leads b m.place step.instr r.row m next (e ∷ h) e.ticks)
            → Holds (e ∷ h) d
        leads (inl x) = absurd (x.0 running)
        leads (inr x) =
            let lead = x.1 in
            let there = subst (λ n. IsTrue (set_at sets n d)) lead.to sure in
            let kept = k.closed m.place step.instr r.row lead.by lead.most d step.here r.there
            lead.there there in
            k.keep step.instr r.row m h a e next (set_at sets m.place) d around
            (hold step.running d)
            (subst (λ n. after b r.row step.instr n (set_at sets m.place) d) (sym lead.to) kept)

-- after a run
ran : Laws → (after : After) (b : Board) (p : List Instr) (t : Table) (sets : List Set)
    (Holds : Fact) → Closed after b p t sets Holds → (answers : List Answered)
    (entries : List Entry) (m last : Machine) (h : List Entry) → IsAdmitted b p t m h
    → IsRun b p m answers entries last → HoldAt sets Holds m h
    → HoldAt sets Holds last (reverse entries ++ h)
ran laws after b p t sets Holds k [] [] m last h admitted run hold =
    subst (λ x. HoldAt sets Holds x h) (sym run) hold
ran laws after b p t sets Holds k (a ∷ answers) (e ∷ entries) m last h admitted run hold =
    let next = run.0 in
    let step = run.1 in
    let rest = ran laws after b p t sets Holds k answers entries next last (e ∷ h)
    (laws.steps b p t m next h a e k.board k.program k.table admitted step) run.2
    (stepped laws after b p t sets Holds k m next h a e admitted step hold) in
    subst (HoldAt sets Holds last) (sym turned) rest
  where
    turned : reverse (e ∷ entries) ++ h ≡ reverse entries ++ (e ∷ h)
    turned = ap (λ x. x ++ h) (reverse-append (e ∷ []) entries)
        ∙ append_assoc (reverse entries) (e ∷ []) h
ran laws after b p t sets Holds k [] (e ∷ entries) m last h admitted run hold = absurd run
ran laws after b p t sets Holds k (a ∷ answers) [] m last h admitted run hold = absurd run

from_start : Laws → (after : After) (b : Board) (p : List Instr) (t : Table) (sets : List Set)
    (Holds : Fact) → Closed after b p t sets Holds
    → ((d : ℕ) → IsTrue (set_at sets 0 d) → Holds [] d)
    → (s : BusState) (answers : List Answered) (entries : List Entry) (last : Machine)
    → IsStart b s → IsRun b p (start_at s) answers entries last
    → HoldAt sets Holds last (reverse entries)
from_start laws after b p t sets Holds k first s answers entries last start run =
    subst (HoldAt sets Holds last) (append-nil (reverse entries))
    (ran laws after b p t sets Holds k answers entries (start_at s) last []
    (laws.starts b p t s k.board k.program k.table start) run (λ running. first))

-- a rail that is on is one of the board
is_of_board : (b : Board) (h : List Entry) (d : ℕ) → IsOn b h d → d < length b.rails
is_of_board b [] d on = absurd on
is_of_board b (e ∷ h) d (inl on) = within b.rails d on.rail on.at.rail
is_of_board b (e ∷ h) d (inr on) = is_of_board b h d on.1

pub closed_are_off : Laws → ClosedSetsAreOff
closed_are_off laws b p t off board program table closed s answers entries last d start run
    running on = by (cases_Bool (set_at off last.place d))
  where
    Off : List Entry → ℕ → Type 0
    Off h n = IsOn b h n → ⊥

    sure : IsTrue (set_at off last.place d) → IsOn b (reverse entries) d → ⊥
    sure = from_start laws IsOffAfter b p t off Off (record {
      board = board;
      program = program;
      table = table;
      closed = closed;
      keep = stays_off b;
    }) (λ n t on. on) s answers entries last start run running d

    lt : nat_lt d 64 ≡ true
    lt = let below = is_of_board b (reverse entries) d on in
        let few = board.few_rails in
        lt-ltb d 64 (omega (arith, below, few))

    by : (set_at off last.place d ≡ true) ⊎ (set_at off last.place d ≡ false)
        → IsTrue (others off last.place d)
    by (inl t) = absurd (sure t on)
    by (inr f) = both (nat_lt d 64) (set_at off last.place d) lt f
      where
        both : (x y : Bool) → x ≡ true → y ≡ false → (x && not y) ≡ true
        both x y e f = rw (e, f) refl

pub closed_have_voltages : Laws → ClosedSetsHaveVoltages
closed_have_voltages laws b p t voltages board program table closed none s answers entries last d
    start run running sure =
    from_start laws HasVoltageAfter b p t voltages (HasVoltage b) (record {
      board = board;
      program = program;
      table = table;
      closed = closed;
      keep = keeps_voltage b;
    }) (λ n t. absurd (cc (none n, t))) s answers entries last start run running d sure
