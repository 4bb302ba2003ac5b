-- A run that is watched step by step.
use Rattle.std.proofs.Common.{◌≡◌, ◌≤◌, ◌<◌, ◌+◌, ◌∷◌, ◌++◌, ℕ, zero, suc, List, [], Option, Some}
use Rattle.std.proofs.Common.{None, All, length, reverse, take, slice_get, MatchOption}
use Rattle.std.proofs.Common.{refl, sym, subst, ap, ◌∙◌, inl, inr, arith}
use Rattle.std.proofs.lemmas.List.{reverse-append}
use Rattle.std.proofs.lemmas.List.Elements.{All-append, All-from_recursion}
use Rattle.smbus.specs.Answered.{Answered}
use Rattle.board.specs.Boards.{Board}
use Rattle.board.specs.Valid.{IsBoard}
use Rattle.targets.specs.States.{BusState, IsStart}
use Rattle.seq_program.specs.declared.instr.Instr.{Instr}
use Rattle.seq_program.specs.Valid.{IsOnBoard, IsProgram}
use Rattle.simulator.specs.Faults.{most_ticks}
use Rattle.simulator.specs.Machines.{Machine, Entry, start_at}
use Rattle.simulator.specs.RunLaws.{RunsGoOn, TicksAddUp}
use Rattle.simulator.specs.StepLaws.{IsReady, StartsAreReady, StepsAreSeen}
use Rattle.simulator.specs.Steps.{IsRun, total_ticks}
use Rattle.facts.specs.declared.duties.rule.Rule.{Rule}
use Rattle.facts.specs.duties.Duties.{Meets, IsFirstFailing, duties}
use Rattle.facts.specs.domain.Rows.{Row}
use Rattle.table_check.specs.checker.Admitted.{IsAdmitted, StartsAreAdmitted, StepsStayAdmitted}
use Rattle.table_check.specs.checker.Obligations.{IsInductive}
use Rattle.table_check.specs.Tables.{Table}
use Rattle.bundles.specs.AnswerTexts.{CanBeSaid}
use Rattle.run_monitor.specs.declared.breach.Reached.{Reached}
use Rattle.run_monitor.specs.declared.monitor.Monitor.{Monitor}
use Rattle.run_monitor.specs.Accepted.{AdmittedKeepRules}
use Rattle.run_monitor.specs.Known.{Knows, known_row}
use Rattle.run_monitor.specs.Monitors.{good_of, Sees, HasSeen, GoesWell, ComesToBreach}
use Rattle.breach_search.specs.Harms.{BreaksAtLast, IsWatchedStep}

-- where a run from a state has come to under the answers before an index: no rule is broken so far
pub record IsSoFar (b : Board) (p : List Instr) (s : BusState) (answers : List Answered)
    (index ticks : ℕ) (m : Machine) (w : Monitor) : Type 0 where
  pub entries : List Entry
  pub run : IsRun b p (start_at s) (take index answers) entries m
  pub ready : IsReady b p m
  pub sum : ticks ≡ total_ticks entries
  pub within : ticks ≤ most_ticks
  pub none : w.found ≡ None
  pub knows : Knows b (reverse entries) (good_of w)
  pub admitted : (t : Table) → IsInductive b p t → IsAdmitted b p t m (reverse entries)
  pub said : All CanBeSaid (take index answers)

pub so_far_none : StartsAreReady → StartsAreAdmitted → (b : Board) (p : List Instr) (s : BusState)
    (m : Machine) (w : Monitor) → IsBoard b → IsProgram p → IsStart b s → m ≡ start_at s
    → w.found ≡ None → Knows b [] (good_of w) → (answers : List Answered)
    → IsSoFar b p s answers 0 0 m w
so_far_none ready admitted b p s m w is program start same none knows answers =
    let P : Machine → Type 0 = λ x. IsReady b p x in
    let Q : Machine → Type 0 = λ x. (t : Table) → IsInductive b p t → IsAdmitted b p t x [] in
    record {
      entries = [];
      run = same;
      ready = subst P (sym same) (ready b p s is program start);
      sum = refl;
      within = omega arith;
      none = none;
      knows = knows;
      admitted = subst Q (sym same) (λ t table. admitted b p t s is program table start);
      said = All-from_recursion CanBeSaid [] tt;
    }

-- ---- one answer more

next_taken : (answers : List Answered) (index : ℕ) (a : Answered)
    → slice_get answers index ≡ Some a → take (suc index) answers ≡ take index answers ++ a ∷ []
next_taken [] index a here = cc here
next_taken (x ∷ answers) zero a here =
    let same : x ≡ a = cc here in
    ap (λ (y : Answered). y ∷ []) same
next_taken (x ∷ answers) (suc index) a here =
    ap (λ (later : List Answered). x ∷ later) (next_taken answers index a here)

taken_more : (answers : List Answered) (index : ℕ) (a : Answered)
    → slice_get answers index ≡ Some a → take (index + 1) answers ≡ take index answers ++ a ∷ []
taken_more answers index a here =
    let next : index + 1 ≡ suc index = omega arith in
    ap (λ (n : ℕ). take n answers) next ∙ next_taken answers index a here

taken_count : (answers : List Answered) (index : ℕ) (a : Answered)
    → slice_get answers index ≡ Some a → index ≡ length (take index answers)
taken_count [] index a here = cc here
taken_count (x ∷ answers) zero a here = refl
taken_count (x ∷ answers) (suc index) a here =
    ap (λ (n : ℕ). suc n) (taken_count answers index a here)

said_more : (answers : List Answered) (index : ℕ) (a : Answered)
    → slice_get answers index ≡ Some a → All CanBeSaid (take index answers) → CanBeSaid a
    → All CanBeSaid (take (index + 1) answers)
said_more answers index a here all said =
    let P : List Answered → Type 0 = λ xs. All CanBeSaid xs in
    subst P (sym (taken_more answers index a here))
    (All-append CanBeSaid (take index answers) (a ∷ []) all
    (All-from_recursion CanBeSaid (a ∷ []) (said, tt)))

-- ---- what the monitor has seen of a step

sees : (b : Board) (p : List Instr) (m : Machine) (a : Answered) (index : ℕ) (old new : Monitor)
    → old.found ≡ None → HasSeen b p m a index old new → Sees b p m a index old new
sees b p m a index old new none saw =
    let P : Option Reached → Type 0 = λ f.
    MatchOption f (Sees b p m a index old new) (λ x. new ≡ old) in
    subst P none saw

goes_well : (b : Board) (p : List Instr) (m : Machine) (a : Answered) (index : ℕ)
    (old new : Monitor) → old.found ≡ None → HasSeen b p m a index old new → new.found ≡ None
    → GoesWell b p m a old new
goes_well b p m a index old new was saw none =
    let P : Option Reached → Type 0 = λ f.
    MatchOption f (GoesWell b p m a old new) (ComesToBreach b p m index old) in
    subst P none (sees b p m a index old new was saw)

comes_to_breach : (b : Board) (p : List Instr) (m : Machine) (a : Answered) (index : ℕ)
    (old new : Monitor) (x : Reached) → old.found ≡ None → HasSeen b p m a index old new
    → new.found ≡ Some x → ComesToBreach b p m index old x
comes_to_breach b p m a index old new x was saw some =
    let P : Option Reached → Type 0 = λ f.
    MatchOption f (GoesWell b p m a old new) (ComesToBreach b p m index old) in
    subst P some (sees b p m a index old new was saw)

-- ---- a step that breaks no rule

pub so_far_more : RunsGoOn → TicksAddUp → StepsAreSeen → StepsStayAdmitted → (b : Board)
    (p : List Instr) (s : BusState) (answers : List Answered) (index ticks : ℕ) (m next : Machine)
    (old new : Monitor) (a : Answered) (e : Entry) → IsBoard b → IsProgram p
    → IsSoFar b p s answers index ticks m old → slice_get answers index ≡ Some a
    → IsWatchedStep b p m a index ticks old new e next → new.found ≡ None
    → IsSoFar b p s answers (index + 1) (ticks + e.ticks) next new
so_far_more go_on add_up seen stay b p s answers index ticks m next old new a e is program h here
    w none =
    let history : e ∷ reverse h.entries ≡ reverse (h.entries ++ e ∷ []) =
    sym (reverse-append h.entries (e ∷ [])) in
    let P : List Entry → Type 0 = λ x. Knows b x (good_of new) in
    let Q : List Entry → Type 0 = λ x. (t : Table) → IsInductive b p t
    → IsAdmitted b p t next x in
    let well = goes_well b p m a index old new h.none w.seen none in
    record {
      entries = h.entries ++ e ∷ [];
      run = go_on b p (start_at s) m next answers h.entries index a e here h.run w.step;
      ready = (seen b p m next a e is program h.ready w.step).ready;
      sum = ap (λ n. n + e.ticks) h.sum ∙ add_up h.entries e;
      within = w.within;
      none = none;
      knows = subst P history (well.knows (reverse h.entries) e next h.ready w.step h.knows);
      admitted = subst Q history (λ t table.
          stay b p t m next (reverse h.entries) a e is program table (h.admitted t table) w.step);
      said = said_more answers index a here h.said w.said;
    }

-- ---- a step that breaks a rule

some_instr : (p : List Instr) (place : ℕ) → place < length p
    → (i : Instr) × (slice_get p place ≡ Some i)
some_instr [] place lt = absurd (omega (arith, lt))
some_instr (i ∷ is') zero lt = (i, refl)
some_instr (i ∷ is') (suc n) lt = some_instr is' n (omega (arith, lt))

pub breaks_here : (b : Board) (p : List Instr) (s : BusState) (answers : List Answered)
    (index ticks : ℕ) (m next : Machine) (old new : Monitor) (a : Answered) (e : Entry)
    (x : Reached) → IsStart b s → IsSoFar b p s answers index ticks m old
    → slice_get answers index ≡ Some a → IsWatchedStep b p m a index ticks old new e next
    → new.found ≡ Some x → (x.breach.index ≡ index)
    × BreaksAtLast b p s (take (index + 1) answers) x.breach
breaks_here b p s answers index ticks m next old new a e x start h here w some =
    let c = comes_to_breach b p m a index old new x h.none w.seen some in
    let instr = some_instr p m.place h.ready.machine.place in (
      c.at.0,
      record {
        may_start = start;
        before = take index answers;
        last = a;
        answers_are = taken_more answers index a here;
        entries = h.entries;
        machine = m;
        run = h.run;
        running = c.running;
        index = c.at.0 ∙ taken_count answers index a here;
        place = c.at.1;
        instr = instr.0;
        here = instr.1;
        good = good_of old;
        knows = h.knows;
        breach = c.told c.running instr.0 instr.1;
        entry = e;
        next = next;
        step = w.step;
        within = subst (λ (n : ℕ). n + e.ticks ≤ most_ticks) h.sum w.within;
        said = said_more answers index a here h.said w.said;
      },
    )

none_fails : (b : Board) (row : Row) (i : Instr) (rules : List Rule) (found : Option Rule)
    → ((rule : Rule) → Meets b row i rule) → IsFirstFailing b row i rules found → found ≡ None
none_fails b row i [] found meets k = k
none_fails b row i (rule ∷ rules) found meets (inl k) = none_fails b row i rules found meets k.1
none_fails b row i (rule ∷ rules) found meets (inr k) = absurd (k.0 (meets rule))

-- where the program has a table that keeps the rule book, no step does
pub spares : AdmittedKeepRules → (b : Board) (p : List Instr) (s : BusState)
    (answers : List Answered) (index ticks : ℕ) (m next : Machine) (old new : Monitor)
    (a : Answered) (e : Entry) (x : Reached) (t : Table) → IsBoard b → IsProgram p
    → All (λ i. IsOnBoard (length b.targets) i) p → IsSoFar b p s answers index ticks m old
    → IsWatchedStep b p m a index ticks old new e next → new.found ≡ Some x → IsInductive b p t
    → ⊥
spares keep b p s answers index ticks m next old new a e x t is program on h w some table =
    let c = comes_to_breach b p m a index old new x h.none w.seen some in
    let instr = some_instr p m.place h.ready.machine.place in
    let none = none_fails b (known_row m (good_of old)) instr.0 duties (Some x.breach.rule)
    (λ r. keep b p t m _ instr.0 (good_of old) is program on table (h.admitted t table) c.running
    instr.1 h.knows r) (c.told c.running instr.0 instr.1) in
    cc none
