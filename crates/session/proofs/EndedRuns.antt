-- How a run that is judged ends.
use Rattle.std.proofs.Common.{◌≡◌, ◌<◌, ◌≤◌, ◌+◌, ◌∷◌, ℕ, List, [], Option, Some, None}
use Rattle.std.proofs.Common.{length, take, drop, slice_get, zero, suc, length-drop, All}
use Rattle.std.proofs.Common.{refl, sym, subst, ap, ◌∙◌, inl, inr, arith}
use Rattle.std.proofs.lemmas.Option.{slice_get_within}
use Rattle.smbus.specs.Answered.{Answered}
use Rattle.board.specs.Boards.{Board}
use Rattle.board.specs.Valid.{IsBoard}
use Rattle.targets.specs.States.{IsStart}
use Rattle.targets.specs.Fitting.{FitsStep}
use Rattle.seq_program.specs.declared.instr.Instr.{Instr}
use Rattle.seq_program.specs.Messages.{message_of}
use Rattle.seq_program.specs.Valid.{IsOnBoard, IsProgram}
use Rattle.simulator.specs.declared.fault.RunFault.{RunFault}
use Rattle.simulator.specs.declared.fault.RunFault.TheVariants as faults
use Rattle.simulator.specs.declared.machine.Ending.TheVariants.{Running}
use Rattle.simulator.specs.Faults.{most_ticks, IsStepFault}
use Rattle.simulator.specs.Machines.{Machine, Entry, start_at}
use Rattle.simulator.specs.RunLaws.{RunsAreOne, StepsAreOne}
use Rattle.simulator.specs.Steps.{IsStep, IsRun, total_ticks}
use Rattle.facts.specs.declared.duties.rule.Rule.{Rule}
use Rattle.facts.specs.duties.Duties.{Meets, IsFirstFailing, duties}
use Rattle.facts.specs.domain.Rows.{Row}
use Rattle.facts.specs.domain.Sets.{Set}
use Rattle.session.specs.declared.scenario.Scenario.{Scenario}
use Rattle.session.specs.Scenarios.{start_of}
use Rattle.table_check.specs.checker.Obligations.{IsInductive}
use Rattle.table_check.specs.Tables.{Table}
use Rattle.run_monitor.specs.Accepted.{AdmittedKeepRules}
use Rattle.session.specs.Breaches.{ComesTo, KeepsRulesAt, IsKnownAt, IsFirstBreach}
use Rattle.run_monitor.specs.Known.{known_row}
use Rattle.session.specs.Runs.{IsNextOrFault}
use Rattle.session.proofs.JudgedRuns.{IsJudged, IsTold, kept_here, kept_at}
use Rattle.session.proofs.Replayed.{IsReplayed, next_is}

pub same_some : {X : Type 0} (x y : X) → Some x ≡ Some y → x ≡ y
same_some x y e = cc

-- the step of a run under an answer of an index
record Passes (b : Board) (p : List Instr) (m : Machine) (answers : List Answered) (index : ℕ)
    (a : Answered) (entries : List Entry) : Type 0 where
  pub front : List Entry
  pub mid : Machine
  pub entry : Entry
  pub next : Machine
  pub run : IsRun b p m (take index answers) front mid
  pub step : IsStep b p mid a entry next
  pub few : total_ticks front + entry.ticks ≤ total_ticks entries

passes : (b : Board) (p : List Instr) (m last : Machine) (answers : List Answered) (index k : ℕ)
    (a : Answered) (entries : List Entry) → slice_get answers index ≡ Some a → index < k
    → IsRun b p m (take k answers) entries last → Passes b p m answers index a entries
passes b p m last [] index k a entries here lt run = cc here
passes b p m last (x ∷ answers) index zero a entries here lt run = absurd (omega (arith, lt))
passes b p m last (x ∷ answers) zero (suc k) a [] here lt run = absurd run
passes b p m last (x ∷ answers) zero (suc k) a (e ∷ entries) here lt run =
    let Q : Answered → Type 0 = λ y. IsStep b p m y e run.0 in
    record {
      front = [];
      mid = m;
      entry = e;
      next = run.0;
      run = refl;
      step = subst Q (same_some x a here) run.1;
      few = omega arith;
    }
passes b p m last (x ∷ answers) (suc index) (suc k) a [] here lt run = absurd run
passes b p m last (x ∷ answers) (suc index) (suc k) a (e ∷ entries) here lt run =
    let later = passes b p run.0 last answers index k a entries here (omega (arith, lt)) run.2 in
    let few = later.few in
    record {
      front = e ∷ later.front;
      mid = later.mid;
      entry = later.entry;
      next = later.next;
      run = (run.0, run.1, later.run);
      step = later.step;
      few = omega (arith, few);
    }

-- where a step has a fault, none goes past it
no_step : StepsAreOne → (b : Board) (p : List Instr) (m next : Machine) (a : Answered)
    (ticks index : ℕ) (e : Entry) (fault : RunFault) → IsStepFault b p m a ticks index fault
    → IsStep b p m a e next → ticks + e.ticks ≤ most_ticks → ⊥
no_step one b p m next a ticks index e faults.Memory why step few = why
no_step one b p m next a ticks index e (faults.AfterEnd i) why step few = why.0 step.running
no_step one b p m next a ticks index e (faults.AnswerDoesNotFit i) why step few =
    let same : step.instr ≡ why.0.instr =
    same_some step.instr why.0.instr (sym step.here ∙ why.0.here) in
    let P : Instr → Type 0 = λ x. FitsStep b m.bus (message_of b x m.regs) a in
    why.0.outside (subst P same step.step.fits)
no_step one b p m next a ticks index e faults.TooLong why step few =
    let same : e.ticks ≡ why.entry.ticks =
    ap (λ (x : Entry). x.ticks) (one b p m a e why.entry next why.next step why.step).0 in
    let long = why.long in
    omega (arith, same, long, few)
no_step one b p m next a ticks index e faults.BadStart why step few = why

stopped : RunsAreOne → StepsAreOne → (s : Scenario) (left later : List Answered)
    (index ticks : ℕ) (m : Machine) (a : Answered) (fault : RunFault)
    → IsReplayed s left index ticks m → left ≡ a ∷ later
    → IsStepFault s.board s.program m a ticks index fault → (k : ℕ) → index < k → KeepsRulesAt s k
stopped one step s left later index ticks m a fault h first why k lt =
    λ entries end i good comes here knows.
    let b = s.board in
    let p = s.program in
    let answers = s.answers.answers in
    let begin = start_at (start_of s) in
    let at = next_is answers index a later (h.rest ∙ first) in
    let way = passes b p begin end answers index k a entries at.here lt comes.run in
    let same = one b p begin (take index answers) way.front h.entries way.mid m way.run h.run in
    let sum : total_ticks way.front ≡ total_ticks h.entries = ap total_ticks same.0 in
    let all = h.sum in
    let few = way.few in
    let within = comes.within in
    let P : Machine → Type 0 = λ x. IsStep b p x a way.entry way.next in
    absurd (no_step step b p m way.next a ticks index way.entry fault why (subst P same.1 way.step)
    (omega (arith, sum, all, few, within)))

-- a run whose next step has a fault
pub stops : RunsAreOne → StepsAreOne → (s : Scenario) (left later : List Answered)
    (index ticks : ℕ) (m : Machine) (good : Set) (a : Answered)
    → IsJudged s left index ticks m good → left ≡ a ∷ later → IsTold s m good None
    → IsNextOrFault s.board s.program m a ticks index None → IsFirstBreach s None
stops one step s left later index ticks m good a j first told why =
    kept_at s index j.kept (kept_here one s left index ticks m good j told)
    (stopped one step s left later index ticks m a why.0 j.replayed first why.1)

-- a run that is over
pub ends : (s : Scenario) (left : List Answered) (index ticks : ℕ) (m : Machine) (good : Set)
    → IsJudged s left index ticks m good → left ≡ [] → IsFirstBreach s None
ends s left index ticks m good j none =
    let answers = s.answers.answers in
    let gone : length (drop index answers) ≡ 0 = ap length (j.replayed.rest ∙ none) in
    let count = length-drop index answers in
    kept_at s index j.kept (past index (omega (arith, gone, count)))
    (λ k lt. past k (omega (arith, gone, count, lt)))
  where
    past : (k : ℕ) → length s.answers.answers ≤ k → KeepsRulesAt s k
    past k le = λ entries end i good comes here knows.
        let asked = comes.asked in
        absurd (omega (arith, asked, le))

-- a run that can't start
pub never_starts : (s : Scenario) → (IsStart s.board (start_of s) → ⊥) → IsFirstBreach s None
never_starts s never = λ k entries end i good comes here knows. absurd (never comes.may_start)

some_instr : (p : List Instr) (place : ℕ) → place < length p
    → (i : Instr) × (slice_get p place ≡ Some i)
some_instr [] place lt = absurd (omega (arith, lt))
some_instr (i ∷ is') zero lt = (i, refl)
some_instr (i ∷ is') (suc n) lt = some_instr is' n (omega (arith, lt))

comes_to : (s : Scenario) (left later : List Answered) (index ticks : ℕ) (m : Machine) (good : Set)
    (a : Answered) (j : IsJudged s left index ticks m good) → left ≡ a ∷ later
    → m.ended ≡ Running → ComesTo s index j.replayed.entries m
comes_to s left later index ticks m good a j first running =
    let h = j.replayed in
    record {
      may_start = j.may_start;
      run = h.run;
      within = subst (λ (n : ℕ). n ≤ most_ticks) h.sum h.few_ticks;
      asked = slice_get_within s.answers.answers index a
          (next_is s.answers.answers index a later (h.rest ∙ first)).here;
      running = running;
    }

-- what is known where a run has come to
pub known_there : (s : Scenario) (left later : List Answered) (index ticks : ℕ) (m : Machine)
    (good : Set) (a : Answered) (row : Row) → IsJudged s left index ticks m good → left ≡ a ∷ later
    → m.ended ≡ Running → row ≡ known_row m good → IsKnownAt s index row
known_there s left later index ticks m good a row j first running known = record {
  entries = j.replayed.entries;
  machine = m;
  comes = comes_to s left later index ticks m good a j first running;
  good = good;
  knows = j.knows;
  known = known;
}

-- a run that comes to a breach
pub breaks : (s : Scenario) (left later : List Answered) (index ticks : ℕ) (m : Machine)
    (good : Set) (a : Answered) (rule : Rule) (place : ℕ) → IsJudged s left index ticks m good
    → left ≡ a ∷ later → m.ended ≡ Running → IsTold s m good (Some rule) → place ≡ m.place
    → IsFirstBreach s (Some (record { index = index; place = place; rule = rule }))
breaks s left later index ticks m good a rule place j first running told at_place =
    let here = some_instr s.program m.place j.ready.machine.place in (
      record {
        entries = j.replayed.entries;
        machine = m;
        comes = comes_to s left later index ticks m good a j first running;
        place = at_place;
        instr = here.0;
        here = here.1;
        good = good;
        knows = j.knows;
        breach = told running here.0 here.1;
      },
      j.kept,
    )

-- where the program has a table that keeps the rule book, none comes to one
pub spares : AdmittedKeepRules → (s : Scenario) (left : List Answered) (index ticks : ℕ)
    (m : Machine) (good : Set) (rule : Rule) (t : Table) → IsBoard s.board → IsProgram s.program
    → All (λ i. IsOnBoard (length s.board.targets) i) s.program
    → IsJudged s left index ticks m good → m.ended ≡ Running → IsTold s m good (Some rule)
    → IsInductive s.board s.program t → ⊥
spares kept s left index ticks m good rule t is program on j running told table =
    let b = s.board in
    let here = some_instr s.program m.place j.ready.machine.place in
    let none = none_fails b (known_row m good) here.0 duties (Some rule)
    (λ r. kept b s.program t m _ here.0 good is program on table (j.admitted t table) running
    here.1 j.knows r) (told running here.0 here.1) in
    cc none
  where
    none_fails : (b : Board) (row : Row) (i : Instr) (rules : List Rule) (found : Option Rule)
        → ((rule : Rule) → Meets b row i rule) → IsFirstFailing b row i rules found → found ≡ None
    none_fails b row i [] found meets k = k
    none_fails b row i (rule ∷ rules) found meets (inl k) = none_fails b row i rules found meets k.1
    none_fails b row i (rule ∷ rules) found meets (inr k) = absurd (k.0 (meets rule))
