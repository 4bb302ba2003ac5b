-- The reply to a scenario: what is told of its run, or why there is none.
use Rattle.std.specs.Prelude.{◌≡◌, ◌⊎◌, ℕ, List}
use Rattle.simulator.specs.declared.fault.RunFault.{RunFault}
use Rattle.simulator.specs.declared.machine.Ending.{Ending}
use Rattle.simulator.specs.Steps.{total_ticks}
use Rattle.simulator.specs.Traces.{Trace}
use Rattle.session.specs.declared.fault.InputFault.TheVariants.{Run}
use Rattle.session.specs.declared.reply.Status.TheVariants.{Accepted}
use Rattle.session.specs.declared.scenario.Scenario.{Scenario}
use Rattle.session.specs.declared.report.Report.{Report}
use Rattle.session.specs.declared.report.Telling.{Telling}
use Rattle.session.specs.Replies.{Reply, refusal}
use Rattle.session.specs.Reports.{IsReport, TellsAll}
use Rattle.session.specs.Scenarios.{IsRunOf, IsFaultOf}

-- its steps are told, and this is how it ended and how long it took
pub record IsToldRun (telling : Telling) (s : Scenario) (report : Report) (ended : Ending)
    (ticks : ℕ) : Type 0 where
  pub trace : Trace
  pub is_run : IsRunOf s trace
  pub told : IsReport telling trace.entries report
  pub last : ended ≡ trace.last.ended
  pub sum : ticks ≡ total_ticks trace.entries

-- all that is told of the run
pub record IsRunText (telling : Telling) (s : Scenario) (text : List ℕ) : Type 0 where
  pub trace : Trace
  pub is_run : IsRunOf s trace
  pub prints : TellsAll telling trace text

pub record IsTraced (telling : Telling) (s : Scenario) (reply : Reply) : Type 0 where
  pub trace : Trace
  pub is_run : IsRunOf s trace
  pub status : reply.status ≡ Accepted
  pub text : TellsAll telling trace reply.text

pub record TellsFault (s : Scenario) (reply : Reply) : Type 0 where
  pub fault : RunFault
  pub is_fault : IsFaultOf s fault
  pub refused : reply ≡ refusal (Run fault)

abbrev pub IsRunReply : Telling → Scenario → Reply → Type 0
IsRunReply telling s reply = IsTraced telling s reply ⊎ TellsFault s reply
