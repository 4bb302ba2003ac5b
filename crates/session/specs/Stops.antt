-- Where a run stops: the answer that gives no step, and the machine that the run comes to.
use Rattle.std.specs.Prelude.{◌≡◌, Option, None, Result, MatchOption, MatchResult, IsSomeAnd}
use Rattle.std.specs.Prelude.{String}
use Rattle.std.specs.Global.{Global}
use Rattle.smbus.specs.Answered.{Answered}
use Rattle.simulator.specs.declared.fault.RunFault.{RunFault}
use Rattle.simulator.specs.Faults.{RunFails, index_of}
use Rattle.simulator.specs.Machines.{Machine, start_at}
use Rattle.session.specs.declared.scenario.Scenario.{Scenario}
use Rattle.session.specs.declared.stop.Halt.{Halt}
use Rattle.session.specs.declared.stop.Stop.{Stop}
use Rattle.session.specs.Scenarios.{start_of, IsFaultOf}

-- it has this machine and this answer
abbrev pub IsKept : Machine → Answered → Stop → Type 0
IsKept m a stop = (stop.machine ≡ m) × (stop.answer ≡ a)

-- the run comes to this machine, and fails there for this answer
abbrev pub IsStop : Scenario → RunFault → Stop → Type 0
IsStop s fault stop =
    (fails : RunFails s.board s.program (start_at (start_of s)) s.answers.answers fault)
    × IsKept fails.reached fails.answer stop

-- it is told where an answer is to blame
abbrev pub IsStopOf : Scenario → RunFault → Option Stop → Type 0
IsStopOf s fault stop =
    MatchOption (index_of fault) (stop ≡ None) (λ _. IsSomeAnd stop (IsStop s fault))

-- of a run that is whole there is none
abbrev pub IsStopped : Scenario → Result (String Global) RunFault → Option Stop → Type 0
IsStopped s told stop =
    MatchResult told (λ _. stop ≡ None) (λ fault. IsStopOf s fault stop)

-- why a run has no end, and where it stops
pub record IsHaltOf (s : Scenario) (h : Halt) : Type 0 where
  pub fault : IsFaultOf s h.fault
  pub stop : IsStopOf s h.fault h.stop
