-- Where a run breaks a rule first.
use Rattle.std.specs.Prelude.{◌≡◌, ◌<◌, ◌≤◌, ℕ, List, Option, Some, None, length, reverse}
use Rattle.std.specs.Prelude.{slice_get, take, option_map, MatchOption}
use Rattle.seq_program.specs.declared.instr.Instr.{Instr}
use Rattle.targets.specs.States.{IsStart}
use Rattle.simulator.specs.declared.machine.Ending.TheVariants.{Running}
use Rattle.simulator.specs.Faults.{most_ticks}
use Rattle.simulator.specs.Machines.{Machine, Entry, start_at}
use Rattle.simulator.specs.Steps.{IsRun, total_ticks}
use Rattle.facts.specs.domain.Rows.{Row, row_view}
use Rattle.facts.specs.domain.Sets.{Set}
use Rattle.table_check.specs.checker.Obligations.{IsInductive}
use Rattle.table_check.specs.Tables.{Table}
use Rattle.session.specs.declared.scenario.Scenario.{Scenario}
use Rattle.session.specs.Scenarios.{start_of}
use Rattle.run_monitor.specs.declared.breach.Breach.{Breach}
use Rattle.run_monitor.specs.declared.breach.Reached.{Reached}
use Rattle.run_monitor.specs.Known.{Knows, KeepsRules, IsBreach, known_row}

-- a run comes to the answer of an index by these steps, with a machine that runs
pub record ComesTo (s : Scenario) (index : ℕ) (entries : List Entry) (m : Machine) : Type 0 where
  pub may_start : IsStart s.board (start_of s)
  pub run : IsRun s.board s.program (start_at (start_of s)) (take index s.answers.answers) entries m
  pub within : total_ticks entries ≤ most_ticks
  pub asked : index < length s.answers.answers
  pub running : m.ended ≡ Running

-- if it does, the instruction there keeps the rules K1 to K5
abbrev pub KeepsRulesAt : Scenario → ℕ → Type 0
KeepsRulesAt s index =
    (entries : List Entry) (m : Machine) (i : Instr) (good : Set) → ComesTo s index entries m
    → slice_get s.program m.place ≡ Some i → Knows s.board (reverse entries) good
    → KeepsRules s.board good m i

-- it does, and the instruction there breaks this rule before all others
pub record Breaks (s : Scenario) (x : Breach) : Type 0 where
  pub entries : List Entry
  pub machine : Machine
  pub comes : ComesTo s x.index entries machine
  pub place : x.place ≡ machine.place
  pub instr : Instr
  pub here : slice_get s.program machine.place ≡ Some instr
  pub good : Set
  pub knows : Knows s.board (reverse entries) good
  pub breach : IsBreach s.board good machine instr (Some x.rule)

-- what is known where the run comes to an answer: the machine, and which rails reported good
pub record IsKnownAt (s : Scenario) (index : ℕ) (row : Row) : Type 0 where
  pub entries : List Entry
  pub machine : Machine
  pub comes : ComesTo s index entries machine
  pub good : Set
  pub knows : Knows s.board (reverse entries) good
  pub known : row ≡ known_row machine good

-- the first such instruction of a run, if there is one
abbrev pub IsFirstBreach : Scenario → Option Breach → Type 0
IsFirstBreach s None = (index : ℕ) → KeepsRulesAt s index
IsFirstBreach s (Some x) = Breaks s x × ((index : ℕ) → index < x.index → KeepsRulesAt s index)

-- where a whole run breaks a rule first, and what is known there; the run of a program with a table
-- that keeps the rule book breaks none
pub record IsFoundIn (s : Scenario) (found : Option Reached) : Type 0 where
  pub first : IsFirstBreach s (option_map (λ x. x.breach) found)
  pub known : MatchOption found (Unit {0}) (λ x. IsKnownAt s x.breach.index (row_view x.row))
  pub spares : (t : Table) → IsInductive s.board s.program t → found ≡ None
