-- A run that is done step by step, of which nothing is kept but the last machine.
use Rattle.std.proofs.Common.{◌≡◌, ◌≤◌, ◌<◌, ◌^◌, drop, ◌+◌, ℕ, List, [], ◌∷◌, ◌++◌, length, take}
use Rattle.std.proofs.Common.{slice_get}
use Rattle.std.proofs.Common.{Some, All, zero, suc, refl, ap, ◌∙◌}
use Rattle.std.proofs.Common.{arith}
use native.Mathlib.Numerals.{unary_clauses}
use Rattle.std.proofs.lemmas.List.Elements.{All-append, All-from_recursion}
use Rattle.smbus.specs.Answered.{Answered}
use Rattle.simulator.specs.Faults.{most_ticks}
use Rattle.simulator.specs.Machines.{Machine, Entry, start_at, IsMachine}
use Rattle.simulator.specs.Steps.{IsRun, total_ticks}
use Rattle.simulator.specs.RunLaws.{RunsGoOn, TicksAddUp}
use Rattle.simulator.specs.Traces.{HasItsFrame}
use Rattle.session.specs.Runs.{IsNextStep}
use Rattle.session.specs.declared.scenario.Scenario.{Scenario}
use Rattle.session.specs.Scenarios.{start_of}

-- the steps of the answers before an index, and the answers that are left
pub record IsReplayed (s : Scenario) (left : List Answered) (index ticks : ℕ) (m : Machine)
    : Type 0 where
  pub entries : List Entry
  pub run : IsRun s.board s.program (start_at (start_of s)) (take index s.answers.answers) entries m
  pub machine : IsMachine s.board s.program m
  pub seen : All HasItsFrame entries
  pub sum : ticks ≡ total_ticks entries
  pub few_ticks : ticks ≤ most_ticks
  pub rest : drop index s.answers.answers ≡ left
  pub few : length s.answers.answers < 2 ^ 64

abbrev pub nothing_done : (s : Scenario) (m : Machine) → m ≡ start_at (start_of s)
    → IsMachine s.board s.program m → (left : List Answered) → s.answers.answers ≡ left
    → length s.answers.answers < 2 ^ 64 → IsReplayed s left 0 0 m
nothing_done s m is machine left all few = record {
  entries = [];
  run = is;
  machine = machine;
  seen = All-from_recursion HasItsFrame [] tt;
  sum = refl;
  few_ticks = omega arith;
  rest = all;
  few = few;
}

-- the first of the answers that are left
pub record IsNext (answers : List Answered) (index : ℕ) (a : Answered)
    (later : List Answered) : Type 0 where
  pub here : slice_get answers index ≡ Some a
  pub rest : drop (index + 1) answers ≡ later

pub next_is : (answers : List Answered) (index : ℕ) (a : Answered) (later : List Answered)
    → drop index answers ≡ a ∷ later → IsNext answers index a later
next_is [] zero a later e = cc
next_is [] (suc i) a later e = cc
next_is (x ∷ answers) zero a later e = rw e (record { here = refl; rest = refl })
next_is (x ∷ answers) (suc i) a later e =
    let n = next_is answers i a later e in
    record { here = n.here; rest = simp unary_clauses (simp unary_clauses at n.rest) }

abbrev pub one_more : RunsGoOn → TicksAddUp → (s : Scenario) (left later : List Answered)
    (index ticks : ℕ) (m next : Machine) (a : Answered) (e : Entry)
    → IsReplayed s left index ticks m → left ≡ a ∷ later
    → IsNextStep s.board s.program m a ticks e next
    → IsReplayed s later (index + 1) (ticks + e.ticks) next
one_more go_on add_up s left later index ticks m next a e h first n =
    let answers = s.answers.answers in
    let at = next_is answers index a later (h.rest ∙ first) in
    record {
      entries = h.entries ++ e ∷ [];
      run =
          go_on s.board s.program (start_at (start_of s)) m next answers h.entries index a e
          at.here h.run n.step;
      machine = n.machine;
      seen = All-append HasItsFrame h.entries (e ∷ []) h.seen
          (All-from_recursion HasItsFrame (e ∷ []) (n.seen, tt));
      sum = ap (λ n. n + e.ticks) h.sum ∙ add_up h.entries e;
      few_ticks = n.within;
      rest = at.rest;
      few = h.few;
    }
