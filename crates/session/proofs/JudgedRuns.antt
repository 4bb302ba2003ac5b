-- A run that is judged step by step.
use Rattle.std.proofs.Common.{◌≡◌, ◌<◌, ◌+◌, ◌^◌, ◌⊎◌, ◌∷◌, ◌++◌, ℕ, List, [], Option, Some}
use Rattle.std.proofs.Common.{None}
use Rattle.std.proofs.Common.{length, reverse, take, slice_get, Bool, true, false, zero, suc}
use Rattle.std.proofs.Common.{refl, sym, subst, ap, inl, inr, arith}
use Rattle.std.specs.Prelude.{IsTrue}
use Rattle.std.proofs.Math.Path.{fun_ext}
use Rattle.std.proofs.lemmas.List.{reverse-append}
use Rattle.smbus.specs.Answered.{Answered}
use Rattle.board.specs.Boards.{Board}
use Rattle.board.specs.Valid.{IsBoard}
use Rattle.targets.specs.States.{IsStart}
use Rattle.seq_program.specs.declared.instr.Instr.{Instr}
use Rattle.seq_program.specs.Valid.{IsProgram}
use Rattle.simulator.specs.declared.machine.Ending.TheVariants.{Running}
use Rattle.simulator.specs.Machines.{Machine, Entry, start_at}
use Rattle.simulator.specs.RunLaws.{RunsAreOne, RunsGoOn, TicksAddUp}
use Rattle.simulator.specs.StepLaws.{IsReady, StartsAreReady, StepsAreSeen}
use Rattle.simulator.specs.Steps.{IsStep}
use Rattle.facts.specs.declared.duties.rule.Rule.{Rule}
use Rattle.facts.specs.declared.duties.rule.Rule.TheVariants.{K1, K2, K3, K4, K5, K6, K7, K8, K9}
use Rattle.facts.specs.duties.Duties.{Meets, MeetsSent, IsFirstFailing, duties}
use Rattle.seq_program.specs.Requests.{Request, request_in}
use Rattle.facts.specs.domain.Rows.{Row}
use Rattle.facts.specs.domain.Sets.{Set}
use Rattle.session.specs.declared.scenario.Scenario.{Scenario}
use Rattle.session.specs.Scenarios.{start_of}
use Rattle.table_check.specs.checker.Admitted.{IsAdmitted, StartsAreAdmitted, StepsStayAdmitted}
use Rattle.table_check.specs.checker.Obligations.{IsInductive}
use Rattle.table_check.specs.Tables.{Table}
use Rattle.session.specs.Breaches.{ComesTo, KeepsRulesAt}
use Rattle.run_monitor.specs.Known.{Knows, KeepsRules, IsBreach, known_row}
use Rattle.session.specs.Runs.{IsNextStep}
use Rattle.session.proofs.Replayed.{IsReplayed, nothing_done, one_more}

-- where a run has come to, with so many answers left
pub record IsJudged (s : Scenario) (left : List Answered) (index ticks : ℕ) (m : Machine)
    (good : Set) : Type 0 where
  pub may_start : IsStart s.board (start_of s)
  pub replayed : IsReplayed s left index ticks m
  pub ready : IsReady s.board s.program m
  pub knows : Knows s.board (reverse replayed.entries) good
  pub admitted : (t : Table) → IsInductive s.board s.program t
      → IsAdmitted s.board s.program t m (reverse replayed.entries)
  pub kept : (k : ℕ) → k < index → KeepsRulesAt s k

-- ---- a run comes to each answer in one way, and what is known there is known in one way

same_bool : (x y : Bool) → (IsTrue x → IsTrue y) → (IsTrue y → IsTrue x) → x ≡ y
same_bool true true to from = refl
same_bool true false to from = cc (to refl)
same_bool false true to from = cc (from refl)
same_bool false false to from = refl

one_good : (b : Board) (history : List Entry) (x y : Set) → Knows b history x → Knows b history y
    → x ≡ y
one_good b history x y k l =
    fun_ext (λ d. same_bool (x d) (y d)
    (λ t. let lt = k.rails d t in (l.reported d lt).1 ((k.reported d lt).0 t))
    (λ t. let lt = l.rails d t in (k.reported d lt).1 ((l.reported d lt).0 t)))

one_way : RunsAreOne → (s : Scenario) (left : List Answered) (index ticks : ℕ) (m end : Machine)
    (entries : List Entry) (h : IsReplayed s left index ticks m) → ComesTo s index entries end
    → (entries ≡ h.entries) × (end ≡ m)
one_way one s left index ticks m end entries h comes =
    one s.board s.program (start_at (start_of s)) (take index s.answers.answers) entries h.entries
    end m comes.run h.run

-- ---- an instruction that breaks no rule keeps all of them

abbrev AreMet : Board → Row → Instr → List Rule → Type 0
AreMet b row i [] = Unit {0}
AreMet b row i (rule ∷ rules) = Meets b row i rule × AreMet b row i rules

none_fails : (b : Board) (row : Row) (i : Instr) (rules : List Rule)
    → IsFirstFailing b row i rules None → AreMet b row i rules
none_fails b row i [] k = tt
none_fails b row i (rule ∷ rules) (inl k) = (k.0, none_fails b row i rules k.1)
none_fails b row i (rule ∷ rules) (inr k) = cc (k.1)

-- the rules of tables ask nothing of an instruction
rules_of_tables : (b : Board) (row : Row) (o : Option Request)
    → MeetsSent b row o K6 × MeetsSent b row o K7 × MeetsSent b row o K8 × MeetsSent b row o K9
rules_of_tables b row None = (tt, tt, tt, tt)
rules_of_tables b row (Some s) = (tt, tt, tt, tt)

all_met : (b : Board) (row : Row) (i : Instr) → IsFirstFailing b row i duties None → (rule : Rule)
    → Meets b row i rule
all_met b row i none K1 = (none_fails b row i duties none).0
all_met b row i none K2 = (none_fails b row i duties none).1.0
all_met b row i none K3 = (none_fails b row i duties none).1.1.0
all_met b row i none K4 = (none_fails b row i duties none).1.1.1.0
all_met b row i none K5 = (none_fails b row i duties none).1.1.1.1.0
all_met b row i none K6 = (rules_of_tables b row (request_in i)).0
all_met b row i none K7 = (rules_of_tables b row (request_in i)).1
all_met b row i none K8 = (rules_of_tables b row (request_in i)).2
all_met b row i none K9 = (rules_of_tables b row (request_in i)).3

-- what is told of a machine's instruction, if it runs
abbrev pub IsTold : Scenario → Machine → Set → Option Rule → Type 0
IsTold s m good found =
    m.ended ≡ Running → (i : Instr) → slice_get s.program m.place ≡ Some i
    → IsBreach s.board good m i found

pub kept_here : RunsAreOne → (s : Scenario) (left : List Answered) (index ticks : ℕ) (m : Machine)
    (good : Set) → IsJudged s left index ticks m good → IsTold s m good None → KeepsRulesAt s index
kept_here one s left index ticks m good j told = λ entries end i known comes here knows.
    let same = one_way one s left index ticks m end entries j.replayed comes in
    let Keeps : Machine → Type 0 = λ x. x.ended ≡ Running → slice_get s.program x.place ≡ Some i
    → KeepsRules s.board good x i in
    let keeps : Keeps m = λ running at rule.
    all_met s.board (known_row m good) i (told running i at) rule in
    let Knowing : List Entry → Type 0 = λ x. Knows s.board (reverse x) known in
    let good_is : good ≡ known =
    one_good s.board (reverse j.replayed.entries) good known j.knows
    (subst Knowing same.0 knows) in
    subst (λ (x : Set). KeepsRules s.board x end i) good_is
    (subst Keeps (sym same.1) keeps comes.running here)

-- ---- the steps of a run

pub judged_start : StartsAreReady → StartsAreAdmitted → (s : Scenario) (m : Machine) (good : Set)
    → IsBoard s.board → IsProgram s.program → IsStart s.board (start_of s)
    → m ≡ start_at (start_of s) → Knows s.board [] good → (left : List Answered)
    → left ≡ s.answers.answers → length left < 2 ^ 64 → IsJudged s left 0 0 m good
judged_start ready admitted s m good is program start same knows left all few =
    let b = s.board in
    let p = s.program in
    let P : Machine → Type 0 = λ x. IsReady b p x in
    let Q : Machine → Type 0 = λ x. (t : Table) → IsInductive b p t → IsAdmitted b p t x [] in
    let first = subst P (sym same) (ready b p (start_of s) is program start) in
    record {
      may_start = start;
      replayed = nothing_done s m same first.machine left (sym all) (rw all at few);
      ready = first;
      knows = knows;
      admitted = subst Q (sym same) (λ t table. admitted b p t (start_of s) is program table start);
      kept = λ k lt. absurd (omega (arith, lt));
    }

compared : (k n : ℕ) → (k < n) ⊎ ((k ≡ n) ⊎ (n < k))
compared zero zero = inr (inl refl)
compared zero (suc n) = inl (omega arith)
compared (suc k) zero = inr (inr (omega arith))
compared (suc k) (suc n) = next (compared k n)
  where
    next : (k < n) ⊎ ((k ≡ n) ⊎ (n < k)) → (suc k < suc n) ⊎ ((suc k ≡ suc n) ⊎ (suc n < suc k))
    next (inl lt) = inl (omega (arith, lt))
    next (inr (inl is)) = inr (inl (ap suc is))
    next (inr (inr lt)) = inr (inr (omega (arith, lt)))

-- rules that are kept before an index, at it and behind it
pub kept_at : (s : Scenario) (index : ℕ) → ((k : ℕ) → k < index → KeepsRulesAt s k)
    → KeepsRulesAt s index → ((k : ℕ) → index < k → KeepsRulesAt s k) → (k : ℕ) → KeepsRulesAt s k
kept_at s index before here behind k = by_order (compared k index)
  where
    by_order : (k < index) ⊎ ((k ≡ index) ⊎ (index < k)) → KeepsRulesAt s k
    by_order (inl lt) = before k lt
    by_order (inr (inl is)) = subst (λ (n : ℕ). KeepsRulesAt s n) (sym is) here
    by_order (inr (inr lt)) = behind k lt

kept_next : (s : Scenario) (index : ℕ) → ((k : ℕ) → k < index → KeepsRulesAt s k)
    → KeepsRulesAt s index → (k : ℕ) → k < index + 1 → KeepsRulesAt s k
kept_next s index before here k few = by_order (compared k index)
  where
    by_order : (k < index) ⊎ ((k ≡ index) ⊎ (index < k)) → KeepsRulesAt s k
    by_order (inl lt) = before k lt
    by_order (inr (inl is)) = subst (λ (n : ℕ). KeepsRulesAt s n) (sym is) here
    by_order (inr (inr lt)) = absurd (omega (arith, lt, few))

pub judged_step : RunsGoOn → TicksAddUp → RunsAreOne → StepsAreSeen → StepsStayAdmitted
    → (s : Scenario)
    (left later : List Answered) (index ticks : ℕ) (m next : Machine) (old new : Set)
    (a : Answered) (e : Entry) → IsBoard s.board → IsProgram s.program
    → IsJudged s left index ticks m old → left ≡ a ∷ later
    → IsNextStep s.board s.program m a ticks e next
    → ((history : List Entry) (e : Entry) (next : Machine) → IsReady s.board s.program m
    → IsStep s.board s.program m a e next → Knows s.board history old
    → Knows s.board (e ∷ history) new)
    → IsTold s m old None → IsJudged s later (index + 1) (ticks + e.ticks) next new
judged_step go_on add_up one seen stay s left later index ticks m next old new a e is program j
    first step knows told =
    let b = s.board in
    let p = s.program in
    let before = j.replayed.entries in
    let history : e ∷ reverse before ≡ reverse (before ++ e ∷ []) =
    sym (reverse-append before (e ∷ [])) in
    let P : List Entry → Type 0 = λ h. Knows b h new in
    let Q : List Entry → Type 0 = λ h. (t : Table) → IsInductive b p t
    → IsAdmitted b p t next h in
    record {
      may_start = j.may_start;
      replayed = one_more go_on add_up s left later index ticks m next a e j.replayed first step;
      ready = (seen b p m next a e is program j.ready step.step).ready;
      knows = subst P history (knows (reverse before) e next j.ready step.step j.knows);
      admitted = subst Q history (λ t table.
          stay b p t m next (reverse before) a e is program table (j.admitted t table) step.step);
      kept = kept_next s index j.kept (kept_here one s left index ticks m old j told);
    }
