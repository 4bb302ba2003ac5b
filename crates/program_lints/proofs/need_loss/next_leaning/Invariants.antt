use Rattle.std.proofs.Common.{◌≡◌}
use Rattle.facts.specs.domain.Sets.{rails_in}
use Rattle.program_lints.specs.Lints.{next_leaning}
use Rattle.program_lints.proofs.Gained.{IsTold}
use Rattle.program_lints.proofs.need_loss.next_leaning.Given as goal

abbrev pub invariant-loop-rail : goal.invariant-loop-rail
invariant-loop-rail l =
    IsTold (λ d x. x ≡ next_leaning l.board (rails_in l.fn.rails) d) (rails_in l.next) l.rail
