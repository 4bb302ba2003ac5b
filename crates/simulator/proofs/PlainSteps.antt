-- Steps that send a message under an answer that acknowledges each byte, holds no slot and leaves
-- the targets as they are.
use Rattle.std.proofs.Common.{◌≡◌, ◌≢◌, ◌≤◌, ◌==◌, inl, inr, ℕ, ◌+◌, Bool, false, Option, Some}
use Rattle.std.proofs.Common.{None, IsTrue}
use Rattle.std.proofs.Common.{List, [], ◌∷◌, slice_get, refl, sym, ap, subst, ◌∙◌, arith}
use Rattle.std.specs.Int.{bit_at}
use Rattle.std.specs.List.{position_from}
use Rattle.std.proofs.lemmas.Bool.Decides.{nat_tests}
use Rattle.std.proofs.lemmas.List.Elements.{All-nil}
use Rattle.std.proofs.lemmas.Nat.Bits.{bit_at-zero}
use Rattle.wires.specs.Bits.{bit}
use Rattle.bit_bus.specs.declared.plan.Slot.{Slot}
use Rattle.bit_bus.specs.Planned.{planned}
use Rattle.bit_bus.specs.Levels.{is_cut, first_cut}
use Rattle.smbus.specs.declared.message.Form.TheVariants.{WriteByte, Alert}
use Rattle.smbus.specs.Asked.{Asked}
use Rattle.smbus.specs.Answered.{Answered}
use Rattle.smbus.specs.Winners.{carried}
use Rattle.smbus.specs.Slots.{slots_of, plan_of}
use Rattle.pmbus_table.specs.Codes.{page_code, write_protect_code}
use Rattle.board.specs.Boards.{Target, Board, largest_stretch}
use Rattle.board.specs.Valid.{IsBoard}
use Rattle.targets.specs.States.{BusState, Alerts}
use Rattle.targets.specs.Outcomes.{IsDone, outcome_of}
use Rattle.targets.specs.Effects.{Writes, AlertsAfter, StopsAlerting, IsAfter}
use Rattle.targets.specs.Fitting.{Fits, FitsForm}
use Rattle.seq_program.specs.declared.instr.Instr.{Instr}
use Rattle.seq_program.specs.Messages.{message_of}
use Rattle.seq_program.specs.Valid.{IsProgram}
use Rattle.simulator.specs.declared.machine.Ending.TheVariants.{Running}
use Rattle.simulator.specs.Machines.{Machine, Entry}
use Rattle.simulator.specs.Moves.{moved}
use Rattle.simulator.specs.Steps.{step_entry, IsStep}
use Rattle.simulator.specs.StepDoes.{StepDoes}
use Rattle.simulator.specs.StepLaws.{IsReady, CarriesMessage, Carries, StepsAreSeen}

-- what is read is this value, if anything
abbrev pub plain : ℕ → Answered
plain value =
    record {
      holds = [];
      refuse = None;
      value = value;
      bytes = [];
      took = false;
      alerts = 0;
      contender = None;
    }

-- nothing is cut where nothing is held
pub uncut : (slots : List Slot) (place : ℕ)
    → position_from (λ (s : Slot × ℕ). is_cut s.1) place (planned slots []) ≡ None
uncut [] place = refl
uncut (s ∷ slots) place = uncut slots (place + 1)

pub none_cut : (m : Asked) (value : ℕ) → first_cut (plan_of m (plain value)) ≡ None
none_cut m value = uncut (slots_of m (plain value)) 0

pub is_done : (m : Asked) (value : ℕ) → IsDone m (plain value)
is_done m value = record { accepted = refl; uncut = none_cut m value }

-- it writes neither PAGE nor WRITE_PROTECT, and is no alert response
pub record LeavesTargets (m : Asked) : Type 0 where
  pub no_alert : m.form ≢ Alert
  pub no_page : m.form ≡ WriteByte → m.code ≢ page_code
  pub no_protection : m.form ≡ WriteByte → m.code ≢ write_protect_code

no_bit : (i : ℕ) → IsTrue (bit 0 i) → ⊥
no_bit i t = zero_not_one (bit_at 0 i) (bit_at-zero i) t
  where
    zero_not_one : (n : ℕ) → n ≡ 0 → IsTrue (n == 1) → ⊥
    zero_not_one n e t = grind (arith, nat_tests)

pub fits : (b : Board) (s : BusState) (m : Asked) (value : ℕ) → FitsForm m.form b s m (plain value)
    → Fits b s m (plain value)
fits b s m value form = record {
  alerts = λ i on. absurd (no_bit i on);
  few_holds = omega arith;
  holds = All-nil (λ hold. hold ≤ largest_stretch b.targets);
  refuse = tt;
  form = form;
}

no_write : (code : ℕ) (is_value : Target → ℕ → Bool) (b : Board) (s : BusState) (m : Asked)
    (value i v : ℕ) → (m.form ≡ WriteByte → m.code ≢ code)
    → Writes code is_value b s (Some m) (plain value) i v → ⊥
no_write code is_value b s m value i v other w =
    let same : m ≡ w.asked = let sent : Some m ≡ Some w.asked = w.sent in cc in
    other (ap (λ (x : Asked). x.form) same ∙ w.is_write.form)
    (ap (λ (x : Asked). x.code) same ∙ w.is_write.command)

no_stop : (b : Board) (s : BusState) (m : Asked) (value i : ℕ) → m.form ≢ Alert
    → StopsAlerting b s (Some m) (plain value) i → ⊥
no_stop b s m value i other stop =
    let same : m ≡ stop.asked = let sent : Some m ≡ Some stop.asked = stop.sent in cc in
    other (ap (λ (x : Asked). x.form) same ∙ stop.is_response)

pub unchanged : (b : Board) (s : BusState) (m : Asked) (value : ℕ) → LeavesTargets m
    → IsAfter b s (Some m) (plain value) s
unchanged b s m value leaves = record {
  pages = refl;
  protects = refl;
  page = λ i lt. inr (λ v w. no_write _ _ b s m value i v leaves.no_page w, refl);
  protect = λ i lt. inr (λ v w. no_write _ _ b s m value i v leaves.no_protection w, refl);
  alerting = λ i. (λ on. inr (on, no_stop b s m value i leaves.no_alert), alerts i);
}
  where
    alerts : (i : ℕ) → AlertsAfter b s (Some m) (plain value) i → Alerts s i
    alerts i (inl on) = absurd (no_bit i on)
    alerts i (inr stays) = stays.0

-- the step
abbrev pub entry_by : Instr → Asked → ℕ → Machine → Entry
entry_by i m value machine = step_entry i (Some m) (plain value) machine

abbrev pub next_by : Instr → Asked → ℕ → Machine → Machine
next_by i m value machine =
    moved i (Some m) (outcome_of (Some m) (plain value)) machine.bus machine

-- what is known of an instruction that sends such a message
pub record Sends (b : Board) (p : List Instr) (machine : Machine) (i : Instr) (m : Asked)
    (value : ℕ) : Type 0 where
  pub running : machine.ended ≡ Running
  pub here : slice_get p machine.place ≡ Some i
  pub message : message_of b i machine.regs ≡ Some m
  pub leaves : LeavesTargets m
  pub reads : FitsForm m.form b machine.bus m (plain value)

unfoldable pub plain_step : (b : Board) (p : List Instr) (machine : Machine) (i : Instr)
    (m : Asked)
    (value : ℕ) → Sends b p machine i m value
    → IsStep b p machine (plain value) (entry_by i m value machine) (next_by i m value machine)
plain_step b p machine i m value sends = record {
  running = sends.running;
  instr = i;
  here = sends.here;
  step = rw sends.message (record {
    fits = (tt, fits b machine.bus m value sends.reads);
    bus = record { targets = unchanged b machine.bus m value sends.leaves; lost = refl };
    next_is = refl;
    entry_is = refl;
  });
}

-- what it is seen to be and to do
pub record StepSeen (b : Board) (p : List Instr) (machine : Machine) (i : Instr) (m : Asked)
    (value : ℕ) : Type 0 where
  pub carries : CarriesMessage machine.bus m (plain value) (entry_by i m value machine)
  pub does : StepDoes b machine.bus (Some m) (plain value) (entry_by i m value machine)
  pub ready : IsReady b p (next_by i m value machine)

pub step_seen : StepsAreSeen → (b : Board) (p : List Instr) (machine : Machine) (i : Instr)
    (m : Asked) (value : ℕ) → IsBoard b → IsProgram p → IsReady b p machine
    → Sends b p machine i m value → StepSeen b p machine i m value
step_seen steps b p machine i m value is program ready sends =
    let a = plain value in
    let e = entry_by i m value machine in
    let seen =
    steps b p machine (next_by i m value machine) a e is program ready
    (plain_step b p machine i m value sends) in
    let same : i ≡ seen.instr =
    let two : Some i ≡ Some seen.instr = sym sends.here ∙ seen.here in cc in
    let asked : message_of b seen.instr machine.regs ≡ Some m =
    subst (λ (x : Instr). message_of b x machine.regs ≡ Some m) same sends.message in
    record {
      carries = subst (λ (o : Option Asked). Carries b machine.bus o a e) asked seen.carries;
      does =
          subst (λ (o : Option Asked). StepDoes b machine.bus (carried o a) a e) asked seen.does;
      ready = seen.ready;
    }
