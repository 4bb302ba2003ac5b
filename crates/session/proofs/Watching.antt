-- A run that is watched step by step.
use Rattle.std.proofs.Common.{◌≡◌, ◌∷◌, ◌<◌, ◌+◌, ◌^◌, ℕ, List, [], Option, Some, None, All, length}
use Rattle.std.proofs.Common.{MatchOption, refl, sym, subst, ap, ◌∙◌}
use Rattle.smbus.specs.Answered.{Answered}
use Rattle.board.specs.Boards.{Board}
use Rattle.board.specs.Valid.{IsBoard}
use Rattle.targets.specs.States.{IsStart}
use Rattle.seq_program.specs.declared.instr.Instr.{Instr}
use Rattle.seq_program.specs.Valid.{IsOnBoard, IsProgram}
use Rattle.simulator.specs.declared.fault.RunFault.{RunFault}
use Rattle.simulator.specs.Faults.{IsStepFault}
use Rattle.simulator.specs.Machines.{Machine, Entry, start_at}
use Rattle.simulator.specs.RunLaws.{RunsAreOne, StepsAreOne, RunsGoOn, TicksAddUp}
use Rattle.simulator.specs.StepLaws.{StartsAreReady, StepsAreSeen}
use Rattle.facts.specs.domain.Rows.{row_view}
use Rattle.table_check.specs.checker.Admitted.{StartsAreAdmitted, StepsStayAdmitted}
use Rattle.run_monitor.specs.declared.breach.Reached.{Reached}
use Rattle.run_monitor.specs.declared.monitor.Monitor.{Monitor}
use Rattle.session.specs.declared.scenario.Scenario.{Scenario}
use Rattle.run_monitor.specs.Accepted.{AdmittedKeepRules}
use Rattle.session.specs.Breaches.{IsFirstBreach, IsKnownAt}
use Rattle.run_monitor.specs.Known.{Knows}
use Rattle.session.specs.Runs.{IsNextStep}
use Rattle.session.specs.Scenarios.{start_of}
use Rattle.run_monitor.specs.Monitors.{good_of, HasSeen, GoesWell, ComesToBreach}
use Rattle.session.specs.Breaches.{IsFoundIn}
use Rattle.session.proofs.EndedRuns.{breaks, known_there, spares, ends, stops, never_starts}
use Rattle.session.proofs.JudgedRuns.{IsJudged, judged_start, judged_step}

-- where a run that is watched has come to, with so many answers left: it is judged, or a breach was
-- found
abbrev pub IsWatched : Scenario → List Answered → ℕ → ℕ → Machine → Monitor → Type 0
IsWatched s left index ticks m w =
    MatchOption w.found (IsJudged s left index ticks m (good_of w)) (λ x. IsFoundIn s (Some x))

pub watched_start : StartsAreReady → StartsAreAdmitted → (s : Scenario) (m : Machine) (w : Monitor)
    → IsBoard s.board → IsProgram s.program → IsStart s.board (start_of s)
    → m ≡ start_at (start_of s) → w.found ≡ None → Knows s.board [] (good_of w)
    → (left : List Answered) → left ≡ s.answers.answers → length left < 2 ^ 64
    → IsWatched s left 0 0 m w
watched_start ready admitted s m w is program start same none knows left all few =
    subst (λ (f : Option Reached). MatchOption f (IsJudged s left 0 0 m (good_of w))
    (λ x. IsFoundIn s (Some x))) (sym none)
    (judged_start ready admitted s m (good_of w) is program start same knows left all few)

-- a breach that is found where a run has come to
found_there : AdmittedKeepRules → (s : Scenario) (left later : List Answered) (index ticks : ℕ)
    (m : Machine) (old : Monitor) (a : Answered) (x : Reached) → IsBoard s.board
    → IsProgram s.program → All (λ i. IsOnBoard (length s.board.targets) i) s.program
    → IsJudged s left index ticks m (good_of old) → left ≡ a ∷ later
    → ComesToBreach s.board s.program m index old x → IsFoundIn s (Some x)
found_there keep s left later index ticks m old a x is program on j first c =
    let First : ℕ → Type 0 = λ n.
    IsFirstBreach s (Some (record { index = n; place = x.breach.place; rule = x.breach.rule })) in
    record {
      first = subst First (sym c.at.0)
          (breaks s left later index ticks m (good_of old) a x.breach.rule x.breach.place j first
          c.running c.told c.at.1);
      known = subst (λ (n : ℕ). IsKnownAt s n (row_view x.row)) (sym c.at.0)
          (known_there s left later index ticks m (good_of old) a (row_view x.row) j first
          c.running c.known);
      spares = λ t table. absurd (spares keep s left index ticks m (good_of old) x.breach.rule t is
          program on j c.running c.told table);
    }

pub watched_step : RunsGoOn → TicksAddUp → RunsAreOne → StepsAreSeen → StepsStayAdmitted
    → AdmittedKeepRules → (s : Scenario) (left later : List Answered) (index ticks : ℕ)
    (m next : Machine) (old new : Monitor) (a : Answered) (e : Entry) → IsBoard s.board
    → IsProgram s.program → All (λ i. IsOnBoard (length s.board.targets) i) s.program
    → IsWatched s left index ticks m old → left ≡ a ∷ later
    → HasSeen s.board s.program m a index old new → IsNextStep s.board s.program m a ticks e next
    → IsWatched s later (index + 1) (ticks + e.ticks) next new
watched_step go_on add_up one seen stay keep s left later index ticks m next old new a e is program
    on w first saw step = by old.found new.found refl refl w saw
  where
    b : Board
    b = s.board

    p : List Instr
    p = s.program

    by : (o n : Option Reached) → o ≡ old.found → n ≡ new.found
        → MatchOption o (IsJudged s left index ticks m (good_of old)) (λ x. IsFoundIn s (Some x))
        → MatchOption o (MatchOption n (GoesWell b p m a old new) (ComesToBreach b p m index old))
        (λ x. new ≡ old)
        → MatchOption n (IsJudged s later (index + 1) (ticks + e.ticks) next (good_of new))
        (λ x. IsFoundIn s (Some x))
    by None None os ns j g =
        judged_step go_on add_up one seen stay s left later index ticks m next (good_of old)
        (good_of new) a e is program j first step g.knows g.told
    by None (Some x) os ns j c =
        found_there keep s left later index ticks m old a x is program on j first c
    by (Some x) n os ns f same =
        let kept : Some x ≡ n = os ∙ sym (ap (λ (w : Monitor). w.found) same) ∙ sym ns in
        subst (λ (z : Option Reached).
        MatchOption z (IsJudged s later (index + 1) (ticks + e.ticks) next (good_of new))
        (λ x. IsFoundIn s (Some x))) kept f

-- a run that is over
pub watched_end : (s : Scenario) (left : List Answered) (index ticks : ℕ) (m : Machine)
    (w : Monitor) → IsWatched s left index ticks m w → left ≡ [] → IsFoundIn s w.found
watched_end s left index ticks m w h none = by w.found h
  where
    by : (o : Option Reached)
        → MatchOption o (IsJudged s left index ticks m (good_of w)) (λ x. IsFoundIn s (Some x))
        → IsFoundIn s o
    by None j = record {
      first = ends s left index ticks m (good_of w) j none;
      known = tt;
      spares = λ t table. refl;
    }
    by (Some x) f = f

-- a run whose next step has a fault
pub watched_fault : RunsAreOne → StepsAreOne → AdmittedKeepRules → (s : Scenario)
    (left later : List Answered) (index ticks : ℕ) (m : Machine) (old new : Monitor) (a : Answered)
    (fault : RunFault) → IsBoard s.board → IsProgram s.program
    → All (λ i. IsOnBoard (length s.board.targets) i) s.program
    → IsWatched s left index ticks m old → left ≡ a ∷ later
    → HasSeen s.board s.program m a index old new
    → IsStepFault s.board s.program m a ticks index fault → IsFoundIn s new.found
watched_fault one step keep s left later index ticks m old new a fault is program on w first saw
    why = by old.found new.found refl refl w saw
  where
    b : Board
    b = s.board

    p : List Instr
    p = s.program

    by : (o n : Option Reached) → o ≡ old.found → n ≡ new.found
        → MatchOption o (IsJudged s left index ticks m (good_of old)) (λ x. IsFoundIn s (Some x))
        → MatchOption o (MatchOption n (GoesWell b p m a old new) (ComesToBreach b p m index old))
        (λ x. new ≡ old) → IsFoundIn s n
    by None None os ns j g = record {
      first = stops one step s left later index ticks m (good_of old) a j first g.told (fault, why);
      known = tt;
      spares = λ t table. refl;
    }
    by None (Some x) os ns j c =
        found_there keep s left later index ticks m old a x is program on j first c
    by (Some x) n os ns f same =
        let kept : Some x ≡ n = os ∙ sym (ap (λ (w : Monitor). w.found) same) ∙ sym ns in
        subst (λ (z : Option Reached). IsFoundIn s z) kept f

-- a run that can't start
pub watched_never : (s : Scenario) → (IsStart s.board (start_of s) → ⊥) → IsFoundIn s None
watched_never s never = record {
  first = never_starts s never;
  known = tt;
  spares = λ t table. refl;
}
