-- A run that is told step by step.
use Rattle.std.proofs.Common.{◌≡◌, ◌≤◌, ◌<◌, ◌^◌, drop, ◌+◌, ℕ, List, [], ◌∷◌, ◌++◌, length, take}
use Rattle.std.proofs.Common.{slice_get}
use Rattle.std.proofs.Common.{Option, Some, None, All, MatchOption, zero, suc, refl, ap, sym}
use Rattle.std.proofs.Common.{subst, ◌∙◌}
use Rattle.std.specs.Prelude.{IfSome, IsSomeAnd}
use Rattle.std.proofs.Common.{length-drop, arith}
use native.Mathlib.Numerals.{unary_clauses}
use Rattle.std.proofs.lemmas.List.{take_all}
use Rattle.std.proofs.lemmas.List.Elements.{All-append, All-from_recursion}
use Rattle.smbus.specs.Answered.{Answered}
use Rattle.targets.specs.States.{IsStart}
use Rattle.simulator.specs.declared.fault.RunFault.{RunFault}
use Rattle.simulator.specs.declared.fault.RunFault.TheVariants as faults
use Rattle.simulator.specs.declared.machine.Ending.{Ending}
use Rattle.simulator.specs.Faults.{index_of, most_ticks, IsStepFault, RunFails}
use Rattle.simulator.specs.declared.stepping.Stage.{Stage}
use Rattle.simulator.specs.Machines.{Machine, Entry, start_at, IsMachine}
use Rattle.simulator.specs.Steps.{IsStep, IsRun, total_ticks}
use Rattle.simulator.specs.RunLaws.{RunsGoOn, TicksAddUp}
use Rattle.simulator.specs.Traces.{Trace, HasItsFrame}
use Rattle.session.specs.declared.scenario.Scenario.{Scenario}
use Rattle.session.specs.declared.report.Report.{Report}
use Rattle.session.specs.declared.report.Telling.{Telling}
use Rattle.session.specs.Reports.{IsReport, HasRoom, TellsAll, telling_of}
use Rattle.session.specs.declared.report.Report.TheVariants as reports
use Rattle.session.specs.declared.report.Telling.TheVariants.{Lines, Levels}
use Rattle.session.specs.RunReplies.{IsToldRun, IsRunText}
use Rattle.session.specs.Scenarios.{start_of, IsFaultOf}
use Rattle.session.specs.Stops.{IsHaltOf, IsKept, IsStop}
use Rattle.session.specs.declared.stop.Halt.{Halt}
use Rattle.session.specs.declared.stop.Stop.{Stop}

-- the steps of the answers before an index, and what is told of them
pub record IsTold (telling : Telling) (s : Scenario) (index ticks : ℕ) (m : Machine)
    (report : Report) : Type 0 where
  pub entries : List Entry
  pub run : IsRun s.board s.program (start_at (start_of s)) (take index s.answers.answers) entries m
  pub machine : IsMachine s.board s.program m
  pub seen : All HasItsFrame entries
  pub sum : ticks ≡ total_ticks entries
  pub few : ticks ≤ most_ticks
  pub told : IsReport telling entries report

-- and the answers that are left
pub record IsToldTo (telling : Telling) (s : Scenario) (left : List Answered) (index ticks : ℕ)
    (m : Machine) (report : Report) : Type 0 where
  pub told : IsTold telling s index ticks m report
  pub rest : drop index s.answers.answers ≡ left
  pub few : length s.answers.answers < 2 ^ 64

pub told_none : (telling : Telling) (s : Scenario) (m : Machine) (report : Report)
    → m ≡ start_at (start_of s) → IsMachine s.board s.program m → IsReport telling [] report
    → IsTold telling s 0 0 m report
told_none telling s m report is machine none = record {
  entries = [];
  run = is;
  machine = machine;
  seen = All-from_recursion HasItsFrame [] tt;
  sum = refl;
  few = omega arith;
  told = none;
}

-- the step of the next answer
pub record IsNextStep (s : Scenario) (ticks : ℕ) (m : Machine) (a : Answered) (e : Entry)
    (next : Machine) : Type 0 where
  pub step : IsStep s.board s.program m a e next
  pub machine : IsMachine s.board s.program next
  pub seen : HasItsFrame e
  pub within : ticks + e.ticks ≤ most_ticks

-- the first of the answers that are left
record IsNext (answers : List Answered) (index : ℕ) (a : Answered)
    (later : List Answered) : Type 0 where
  pub here : slice_get answers index ≡ Some a
  pub rest : drop (index + 1) answers ≡ later

next_is : (answers : List Answered) (index : ℕ) (a : Answered) (later : List Answered)
    → drop index answers ≡ a ∷ later → IsNext answers index a later
next_is [] zero a later e = cc
next_is [] (suc i) a later e = cc
next_is (x ∷ answers) zero a later e = rw e (record { here = refl; rest = refl })
next_is (x ∷ answers) (suc i) a later e =
    let n = next_is answers i a later e in
    record { here = n.here; rest = simp unary_clauses (simp unary_clauses at n.rest) }

-- what a report of one step more says
abbrev pub IsOneMore : Report → Entry → Report → Type 0
IsOneMore old e new = (telling : Telling) (entries : List Entry) → IsReport telling entries old
    → IsReport telling (entries ++ e ∷ []) new

pub told_more : RunsGoOn → TicksAddUp → (telling : Telling) (s : Scenario) (index ticks : ℕ)
    (m next : Machine) (old new : Report) (a : Answered) (e : Entry)
    → IsTold telling s index ticks m old → slice_get s.answers.answers index ≡ Some a
    → IsNextStep s ticks m a e next
    → IsOneMore old e new → IsTold telling s (index + 1) (ticks + e.ticks) next new
told_more go_on add_up telling s index ticks m next old new a e h here n more =
    let answers = s.answers.answers in
    record {
      entries = h.entries ++ e ∷ [];
      run =
          go_on s.board s.program (start_at (start_of s)) m next answers h.entries index a e
          here h.run n.step;
      machine = n.machine;
      seen = All-append HasItsFrame h.entries (e ∷ []) h.seen
          (All-from_recursion HasItsFrame (e ∷ []) (n.seen, tt));
      sum = ap (λ n. n + e.ticks) h.sum ∙ add_up h.entries e;
      few = n.within;
      told = more telling h.entries h.told;
    }

pub told_run : (telling : Telling) (s : Scenario) (index ticks : ℕ) (m : Machine)
    (report : Report) → IsTold telling s index ticks m report
    → length s.answers.answers ≤ index → IsStart s.board (start_of s)
    → IsToldRun telling s report m.ended ticks
told_run telling s index ticks m report h le start = record {
  trace = record { entries = h.entries; last = m };
  is_run = record {
    may_start = start;
    run = subst (λ (answers : List Answered).
        IsRun s.board s.program (start_at (start_of s)) answers h.entries m)
        (take_all index s.answers.answers le) h.run;
    trace = record {
      entries = h.seen;
      within = subst (λ (n : ℕ). n ≤ most_ticks) h.sum h.few;
    };
  };
  told = h.told;
  last = refl;
  sum = h.sum;
}

is_fault : (s : Scenario) (fault : RunFault) → IsStart s.board (start_of s)
    → RunFails s.board s.program (start_at (start_of s)) s.answers.answers fault → IsFaultOf s fault
is_fault s faults.Memory start fails = absurd fails.why
is_fault s (faults.AnswerDoesNotFit index) start fails = (start, fails)
is_fault s (faults.AfterEnd index) start fails = (start, fails)
is_fault s faults.TooLong start fails = (start, fails)
is_fault s faults.BadStart start fails = absurd fails.why

pub told_fails : (telling : Telling) (s : Scenario) (index ticks : ℕ) (m : Machine)
    (report : Report) (a : Answered) (fault : RunFault) → IsTold telling s index ticks m report
    → slice_get s.answers.answers index ≡ Some a
    → IsStepFault s.board s.program m a ticks index fault
    → RunFails s.board s.program (start_at (start_of s)) s.answers.answers fault
told_fails telling s index ticks m report a fault h here why = record {
  index = index;
  entries = h.entries;
  reached = m;
  run = h.run;
  within = subst (λ (n : ℕ). n ≤ most_ticks) h.sum h.few;
  answer = a;
  here = here;
  why = subst (λ (n : ℕ). IsStepFault s.board s.program m a n index fault) h.sum why;
}

pub told_to_more : RunsGoOn → TicksAddUp → (telling : Telling) (s : Scenario)
    (left later : List Answered) (index ticks : ℕ) (m next : Machine) (old new : Report)
    (a : Answered) (e : Entry)
    → IsToldTo telling s left index ticks m old → left ≡ a ∷ later → IsNextStep s ticks m a e next
    → IsOneMore old e new → IsToldTo telling s later (index + 1) (ticks + e.ticks) next new
told_to_more go_on add_up telling s left later index ticks m next old new a e h first n more =
    let at = next_is s.answers.answers index a later (h.rest ∙ first) in
    record {
      told = told_more go_on add_up telling s index ticks m next old new a e h.told at.here n more;
      rest = at.rest;
      few = h.few;
    }

-- there is room for the step
pub room_to_tell : (telling : Telling) (s : Scenario) (left : List Answered) (index ticks : ℕ)
    (m : Machine) (report : Report) (e : Entry) → IsToldTo telling s left index ticks m report
    → ticks + e.ticks ≤ most_ticks → HasRoom report e
room_to_tell telling s left index ticks m report e h within = (
  telling,
  h.told.entries,
  h.told.told,
  subst (λ (n : ℕ). n + e.ticks ≤ most_ticks) h.told.sum within,
)

-- what a step's fault leaves, by its index
abbrev pub Leaves : Machine → Answered → RunFault → Option Stop → Type 0
Leaves m a fault stop =
    MatchOption (index_of fault) (stop ≡ None) (λ _. IsSomeAnd stop (IsKept m a))

left_by : (old new : Stage) (a : Answered) (index : Option ℕ) (stop : Option Stop)
    → IfSome index (λ i. new ≡ old)
    → MatchOption index (stop ≡ None) (λ _. IsSomeAnd stop (IsKept new.machine a))
    → MatchOption index (stop ≡ None) (λ _. IsSomeAnd stop (IsKept old.machine a))
left_by old new a None stop stays left = left
left_by old new a (Some i) stop stays left =
    subst (λ (s : Stage). IsSomeAnd stop (IsKept s.machine a)) stays left

-- a step that isn't made leaves the machine, where an answer is to blame
pub leaves : (old new : Stage) (a : Answered) (fault : RunFault) (h : Halt) → h.fault ≡ fault
    → IfSome (index_of fault) (λ i. new ≡ old) → Leaves new.machine a fault h.stop
    → Leaves old.machine a h.fault h.stop
leaves old new a fault h same stays left =
    subst (λ (f : RunFault). Leaves old.machine a f h.stop) (sym same)
    (left_by old new a (index_of fault) h.stop stays left)

stop_of : (s : Scenario) (m : Machine) (a : Answered) (fault : RunFault) (index : Option ℕ)
    (stop : Option Stop)
    (fails : RunFails s.board s.program (start_at (start_of s)) s.answers.answers fault)
    → fails.reached ≡ m → fails.answer ≡ a
    → MatchOption index (stop ≡ None) (λ _. IsSomeAnd stop (IsKept m a))
    → MatchOption index (stop ≡ None) (λ _. IsSomeAnd stop (IsStop s fault))
stop_of s m a fault None stop fails reached answer none = none
stop_of s m a fault (Some i) None fails reached answer left = absurd left
stop_of s m a fault (Some i) (Some x) fails reached answer left =
    (fails, (left.0 ∙ sym reached, left.1 ∙ sym answer))

pub told_to_halt : (telling : Telling) (s : Scenario) (left later : List Answered)
    (index ticks : ℕ) (m : Machine) (report : Report) (a : Answered) (h : Halt)
    → IsToldTo telling s left index ticks m report → left ≡ a ∷ later
    → IsStart s.board (start_of s) → IsStepFault s.board s.program m a ticks index h.fault
    → Leaves m a h.fault h.stop → IsHaltOf s h
unfolding told_fails
told_to_halt telling s left later index ticks m report a h t first start why leaves =
    let at = next_is s.answers.answers index a later (t.rest ∙ first) in
    let fails = told_fails telling s index ticks m report a h.fault t.told at.here why in
    record {
      fault = is_fault s h.fault start fails;
      stop = stop_of s m a h.fault (index_of h.fault) h.stop fails refl refl leaves;
    }

pub told_to_end : (telling : Telling) (s : Scenario) (left : List Answered) (index ticks : ℕ)
    (m : Machine) (report : Report) → IsToldTo telling s left index ticks m report
    → left ≡ [] → IsStart s.board (start_of s) → IsToldRun telling s report m.ended ticks
told_to_end telling s left index ticks m report h none start =
    let answers = s.answers.answers in
    let gone : length (drop index answers) ≡ 0 = ap length (h.rest ∙ none) in
    let count = length-drop index answers in
    told_run telling s index ticks m report h.told (omega (arith, gone, count)) start

telling_is : (telling : Telling) (entries : List Entry) (report : Report)
    → IsReport telling entries report → telling_of report ≡ telling
telling_is Lines entries (reports.Lines text) h = refl
telling_is Lines entries (reports.Wave wave) h = absurd h
telling_is Levels entries (reports.Lines text) h = absurd h
telling_is Levels entries (reports.Wave wave) h = refl

-- a report of nothing is one as it tells
pub empty_told : (telling : Telling) (report : Report) → IsReport telling [] report
    → IsReport (telling_of report) [] report
empty_told telling report h =
    rw (telling_is telling [] report h) h

-- what the text of a report says
abbrev pub IsAll : Report → Ending → ℕ → List ℕ → Type 0
IsAll report ended ticks text = (telling : Telling) (trace : Trace)
    → IsReport telling trace.entries report → ended ≡ trace.last.ended
    → ticks ≡ total_ticks trace.entries → TellsAll telling trace text

pub run_told : (telling : Telling) (s : Scenario) (empty report : Report) (ended : Ending)
    (ticks : ℕ) (text : List ℕ) → IsReport telling [] empty
    → IsToldRun (telling_of empty) s report ended ticks → IsAll report ended ticks text
    → IsRunText telling s text
run_told telling s empty report ended ticks text none told all =
    let t = rw (telling_is telling [] empty none) at told in
    record {
      trace = t.trace;
      is_run = t.is_run;
      prints = all telling t.trace t.told t.last t.sum;
    }
