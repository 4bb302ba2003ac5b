use Rattle.std.proofs.Common.{◌≡◌, ◌&&◌, not}
use Rattle.std.specs.Prelude.{◌==◌}
use Rattle.facts.specs.domain.Sets.{rails_in}
use Rattle.program_lints.proofs.Gained.{IsTold}
use Rattle.program_lints.proofs.need_loss.leans_on.Given as goal

abbrev pub invariant-loop-rail : goal.invariant-loop-rail
invariant-loop-rail l =
    IsTold (λ d x. x ≡ (rails_in l.leaning d && not (d == l.fn.need))) (rails_in l.others) l.rail
