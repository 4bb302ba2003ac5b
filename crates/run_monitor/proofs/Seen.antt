-- A breach that is kept where none was found before.
use Rattle.std.proofs.Common.{◌≡◌, ℕ, List, Option, Some, None, MatchOption, refl, sym, subst, ap}
use Rattle.std.proofs.Common.{is_some, false, ◌∙◌}
use Rattle.std.specs.Prelude.{IsSomeAnd}
use Rattle.smbus.specs.Answered.{Answered}
use Rattle.board.specs.Boards.{Board}
use Rattle.seq_program.specs.declared.instr.Instr.{Instr}
use Rattle.simulator.specs.declared.machine.Ending.TheVariants.{Running}
use Rattle.simulator.specs.Machines.{Machine}
use Rattle.facts.specs.declared.duties.rule.Rule.{Rule}
use Rattle.facts.specs.domain.Rows.{row_view}
use Rattle.run_monitor.specs.declared.breach.Breach.{Breach}
use Rattle.run_monitor.specs.declared.breach.Reached.{Reached}
use Rattle.run_monitor.specs.declared.monitor.Monitor.{Monitor}
use Rattle.run_monitor.specs.Known.{known_row}
use Rattle.run_monitor.specs.Monitors.{good_of, IsToldOf, HasSeen, Sees, GoesWell, ComesToBreach}

none_of : (found : Option Reached) → is_some found ≡ false → found ≡ None
none_of None is = refl
none_of (Some x) is = cc is

-- a breach that is kept is the one that a machine comes to
comes_to : (b : Board) (p : List Instr) (m : Machine) (a : Answered) (index place : ℕ)
    (old new : Monitor) (rule : Rule) (found : Option Reached) → m.ended ≡ Running
    → IsToldOf b p m (good_of old) (Some rule) → place ≡ m.place
    → IsSomeAnd found
    (λ x. (x.breach ≡ record { index = index; place = place; rule = rule })
    × (row_view x.row ≡ known_row m (good_of old)))
    → MatchOption found (GoesWell b p m a old new) (ComesToBreach b p m index old)
comes_to b p m a index place old new rule None running told at kept = absurd kept
comes_to b p m a index place old new rule (Some x) running told at kept = record {
  running = running;
  told =
      subst (λ (r : Rule). IsToldOf b p m (good_of old) (Some r))
      (sym (ap (λ (y : Breach). y.rule) kept.0)) told;
  at =
      (ap (λ (y : Breach). y.index) kept.0, ap (λ (y : Breach). y.place) kept.0 ∙ at);
  known = kept.1;
}

-- and it is found where none was
pub broken : (b : Board) (p : List Instr) (m : Machine) (a : Answered) (index place : ℕ)
    (old new : Monitor) (rule : Rule) → is_some old.found ≡ false → m.ended ≡ Running
    → IsToldOf b p m (good_of old) (Some rule) → place ≡ m.place
    → IsSomeAnd new.found
    (λ x. (x.breach ≡ record { index = index; place = place; rule = rule })
    × (row_view x.row ≡ known_row m (good_of old)))
    → HasSeen b p m a index old new
broken b p m a index place old new rule quiet running told at kept =
    subst (λ (f : Option Reached). MatchOption f (Sees b p m a index old new) (λ x. new ≡ old))
    (sym (none_of old.found quiet))
    (comes_to b p m a index place old new rule new.found running told at kept)
