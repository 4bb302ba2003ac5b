-- A program that sets a register and sends CLEAR_FAULTS: after its first step the machine stands at
-- the message.
use Rattle.std.proofs.Common.{◌≡◌, ◌<◌, ◌≤◌, ◌⊎◌, ℕ, false, inl, inr, Option, Some, None, List, []}
use Rattle.std.proofs.Common.{◌∷◌, IfSome, IsSome, IsTrue, refl, sym, subst, ◌∙◌}
use Rattle.std.proofs.Common.{arith, lit<, lit≤}
use Rattle.std.proofs.lemmas.Bool.{false≢true}
use Rattle.std.proofs.lemmas.Nat.Bits.{bit_at-zero}
use Rattle.std.proofs.lemmas.List.Elements.{All-from_recursion}
use Rattle.smbus.specs.declared.message.Form.TheVariants.{SendByte}
use Rattle.wires.specs.Bits.{bit}
use Rattle.smbus.specs.Asked.{Asked}
use Rattle.smbus.specs.Answered.{Answered}
use Rattle.pmbus_table.specs.Codes.{clear_faults_code}
use Rattle.pmbus_table.specs.Commands.{takes_form, form_read, counts_as_write}
use Rattle.pmbus_table.specs.Table.{table}
use Rattle.board.specs.Boards.{Allow, Target, Board, entry_of}
use Rattle.board.specs.Valid.{IsBoard}
use Rattle.targets.specs.Effects.{AlertsAfter}
use Rattle.targets.specs.States.{BusState, IsStart, IsTargetAt, Alerts}
use Rattle.seq_program.specs.declared.instr.Instr.{Instr}
use Rattle.seq_program.specs.declared.instr.Instr.TheVariants as instr
use Rattle.seq_program.specs.Programs.{is_end}
use Rattle.seq_program.specs.Valid.{IsInstr, IsProgram, jump_in}
use Rattle.simulator.specs.declared.machine.Ending.TheVariants.{Running}
use Rattle.simulator.specs.Machines.{Machine, Entry, start_at}
use Rattle.simulator.specs.Moves.{moved}
use Rattle.simulator.specs.Steps.{IsStepOf, IsStep, step_entry as told}
use Rattle.targets.specs.Outcomes.{outcome_of}
use Rattle.simulator.specs.SmallPrograms.{SomeClearingIsListed}
use Rattle.simulator.specs.StepLaws.{StepsAreSeen, StartsAreReady}
use Rattle.facts.specs.declared.duties.rule.Rule.{Rule}
use Rattle.facts.specs.declared.duties.rule.Rule.TheVariants.{K1, K2, K3, K4, K5, K6, K7, K8, K9}
use Rattle.facts.specs.declared.domain.source.Source.TheVariants as source
use Rattle.facts.specs.domain.Rows.{Row, Admits, SpanCovers, RowCovers}
use Rattle.facts.specs.duties.Duties.{one, Meets}
use Rattle.facts.specs.transfer.Edges.{with_reg, a_byte, Edge, edge}
use Rattle.facts.specs.transfer.Ticks.{own_ticks}
use Rattle.facts.specs.transfer.TimedEdges.{HasTimed, timed_edges}
use Rattle.facts.specs.Steps.{Leads, StepsAreSound}
use Rattle.facts.specs.FactLaws.{EdgesStayShaped}
use Rattle.facts.specs.Witnesses.{widest_row, SomeMachineStands, SomeRowIsWider}
use Rattle.facts.proofs.Shared.Places.{within}
use Rattle.facts.proofs.Witness.Rows.{no_source, widest_is_row, widest_admits}

abbrev first : Instr
first = instr.Set 0 0

abbrev second : Instr
second = instr.Send 0 clear_faults_code 2

abbrev program : List Instr
program = first ∷ second ∷ instr.End ∷ []

takes : IsTrue (takes_form clear_faults_code SendByte)
unfolding table
takes = refl

unread : form_read clear_faults_code ≡ None
unfolding table
unread = refl

no_write : counts_as_write clear_faults_code SendByte ≡ false
unfolding table
no_write = refl

is_program : IsProgram program
is_program = record {
  some = lit≤ tt;
  few = lit≤ tt;
  each =
      All-from_recursion (λ (i : Instr). IsInstr i) program
      ((lit< tt, lit≤ tt), (takes, (tt, tt)));
  jumps =
      All-from_recursion (λ (i : Instr). IfSome (jump_in i) (λ place. place < 3)) program
      (tt, (lit< tt, (tt, tt)));
  last = refl;
}

abbrev quiet : Answered
quiet = record {
  holds = [];
  refuse = None;
  value = 0;
  bytes = [];
  took = false;
  alerts = 0;
  contender = None;
}

-- the first step
abbrev entry : BusState → Entry
entry s = told first None quiet (start_at s)

abbrev next : BusState → Machine
next s = moved first None (outcome_of None quiet) s (start_at s)

no_bit : (i : ℕ) → bit 0 i ≡ false
no_bit i = rw (bit_at-zero i) refl

no_message : (m : Asked) → None ≡ Some m → ⊥
no_message m e = cc

still : (b : Board) (s : BusState) (i : ℕ) → AlertsAfter b s None quiet i → Alerts s i
still b s i (inl on) = absurd (false≢true (sym (no_bit i) ∙ on))
still b s i (inr kept) = kept.0

step : (b : Board) (s : BusState) → IsStepOf b first None (start_at s) quiet (entry s) (next s)
step b s = record {
  fits = (
    record {
      alerts = λ i on. absurd (false≢true (sym (no_bit i) ∙ on));
      holds = refl;
      refuse = refl;
      reads = record { value = refl; bytes = refl };
      took = refl;
    },
    refl,
  );
  bus = record {
    targets = record {
      pages = refl;
      protects = refl;
      page = λ i lt. inr ((λ v writes. no_message writes.asked writes.sent), refl);
      protect = λ i lt. inr ((λ v writes. no_message writes.asked writes.sent), refl);
      alerting = λ i. (
        (λ on. inr (on, (λ stops. no_message stops.asked stops.sent))),
        still b s i,
      );
    };
    lost = refl;
  };
  next_is = refl;
  entry_is = refl;
}

taken : (b : Board) (s : BusState) → IsStep b program (start_at s) quiet (entry s) (next s)
taken b s = record { running = refl; instr = first; here = refl; step = step b s }

-- the duties of CLEAR_FAULTS, where the target has an entry for it
meets : (b : Board) (row : Row) (t : Target) → IsTargetAt b 0 t → (entry : Option Allow)
    → entry_of SendByte clear_faults_code t.allow ≡ entry → IsSome entry → (rule : Rule)
    → Meets b row second rule
meets b row t at None e some rule = cc
meets b row t at (Some entry) e some K1 = record {
  target = t;
  at = at;
  entry = entry;
  listed = e;
  in_entry = tt;
  known = tt;
}
meets b row t at (Some entry) e some K2 = λ paged reads.
    let bad : None ≡ Some SendByte = sym unread ∙ reads in
    cc
meets b row t at (Some entry) e some K3 = λ writes protect stored.
    absurd (false≢true (sym no_write ∙ writes))
meets b row t at (Some entry) e some K4 = tt
meets b row t at (Some entry) e some K5 = tt
meets b row t at (Some entry) e some K6 = tt
meets b row t at (Some entry) e some K7 = tt
meets b row t at (Some entry) e some K8 = tt
meets b row t at (Some entry) e some K9 = tt

no_duty : (b : Board) (row : Row) (rule : Rule) → Meets b row first rule
no_duty b row rule = tt

-- the widest row admits the machine before the step, and so after it, since the step sets what is
-- known already
admits_next : StepsAreSound → StartsAreReady → (b : Board) (s : BusState) → IsBoard b → IsStart b s
    → Admits b (widest_row b) (next s) (entry s ∷ [])
admits_next sound starts b s is start = by (sound b program first (widest_row b) (start_at s) []
    quiet (entry s) (next s) (record {
      board = is;
      program = is_program;
      here = refl;
      shaped = widest_is_row b is;
      ready = starts b program s is is_program start;
      admits = widest_admits b s is start;
      running = refl;
      duties = no_duty b (widest_row b);
    }) (step b s)).goes
  where
    by : (((next s).ended ≡ Running → ⊥) × IsTrue (is_end first)
        × ((entry s).ticks ≤ own_ticks b first))
        ⊎ (((next s).ended ≡ Running)
        × Leads b 0 first (widest_row b) (start_at s) (next s) (entry s ∷ []) (entry s).ticks)
        → Admits b (widest_row b) (next s) (entry s ∷ [])
    by (inl ends) = absurd (ends.0 refl)
    by (inr goes) =
        let leads = goes.1 in
        subst (λ (x : Edge). Admits b x.row (next s) (entry s ∷ []))
        (only leads.by leads.most leads.there)
        leads.admits
      where
        only : (x : Edge) (n : ℕ) → HasTimed (timed_edges b 0 first (widest_row b)) x n
            → x ≡ edge 1 (widest_row b)
        only x n (inl k) = k.0
        only x n (inr none) = absurd none

pub some_machine_stands : StepsAreSound → StepsAreSeen → StartsAreReady → SomeClearingIsListed
    → SomeMachineStands
some_machine_stands sound steps starts case =
    let b = case.on.board in
    let s = case.on.state in
    let is = case.on.is_board in
    let start = case.on.is_start in
    let seen = steps b program (start_at s) (next s) quiet (entry s) is is_program
    (starts b program s is is_program start) (taken b s) in
    record {
      board = b;
      program = program;
      instr = second;
      row = widest_row b;
      machine = next s;
      history = entry s ∷ [];
      sends = refl;
      later = λ e. cc;
      stands = record {
        board = is;
        program = is_program;
        here = refl;
        shaped = widest_is_row b is;
        ready = seen.ready;
        admits = admits_next sound starts b s is start;
        running = refl;
        duties = meets b (widest_row b) case.on.target case.on.first
            (entry_of SendByte clear_faults_code case.on.target.allow) refl case.listed;
      };
    }

-- a row that knows less of a register
abbrev wide : Board → Row
wide b = with_reg (widest_row b) 1 a_byte source.None

wide_covers : (b : Board) → RowCovers b (wide b) (widest_row b)
wide_covers b = record {
  pages = λ i lt v has. has;
  protects = λ i lt v has. has;
  good = λ d has. has;
  regs =
      (zero, ((lit≤ tt, lit≤ tt), (zero, (zero, (zero, (zero, (zero, (zero, tt))))))));
  sources = λ r. inl (no_source 8 r);
  counters = (zero, (zero, (zero, (zero, tt))));
  lost = (omega arith, omega arith);
}
  where
    zero : SpanCovers (one 0) (one 0)
    zero = (lit≤ tt, lit≤ tt)

pub some_row_is_wider : EdgesStayShaped → SomeClearingIsListed → SomeRowIsWider
some_row_is_wider shaped case =
    let b = case.on.board in
    let is = case.on.is_board in
    let row = widest_row b in
    let alert = instr.Alert 1 0 in
    record {
      board = b;
      instr = second;
      wide = wide b;
      row = row;
      is_board = is;
      said = (takes, within b.targets 0 case.on.target case.on.first);
      sends = refl;
      wider = record {
        left = shaped b 0 alert row (edge 1 (wide b)) (own_ticks b alert) is (lit< tt)
            (widest_is_row b is) tt (inl (refl, refl));
        right = widest_is_row b is;
        covers = wide_covers b;
      };
      meets = meets b (wide b) case.on.target case.on.first
          (entry_of SendByte clear_faults_code case.on.target.allow) refl case.listed;
      other = λ covers.
          let few = covers.regs.1.0.1 in
          absurd (omega (arith, few));
    }
