use Rattle.std.proofs.Common.{sym}
use Rattle.std.proofs.lemmas.Option.{slice_get_within, get_or_from_slice_get}
use Rattle.simulator.proofs.Runs.{next_run, ticks_more}
use Rattle.simulator.proofs.law.runs_go_on.Goals as goal

pub returns-clause-run : goal.returns-clause-run
returns-clause-run c = λ b p m mid last answers entries index a e here run step.
    next_run b p m mid last answers entries index a e (slice_get_within answers index a here)
    (sym (get_or_from_slice_get answers index a a here)) run step

pub returns-clause-ticks : goal.returns-clause-ticks
returns-clause-ticks c = λ entries e. sym (ticks_more entries e)
