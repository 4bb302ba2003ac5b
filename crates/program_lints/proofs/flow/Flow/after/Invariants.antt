use Rattle.std.proofs.Common.{◌≡◌}
use Rattle.facts.specs.domain.Sets.{rails_in}
use Rattle.program_lints.specs.Flows.{flow_after}
use Rattle.program_lints.proofs.Gained.{IsTold}
use Rattle.program_lints.proofs.flow.Flow.after.Given as goal

abbrev pub invariant-loop-rail : goal.invariant-loop-rail
invariant-loop-rail l =
    IsTold (λ d x. x ≡ flow_after l.self (rails_in l.fn.before) d) (rails_in l.after) l.rail
