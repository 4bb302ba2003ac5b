use Rattle.std.proofs.Common.{◌≡◌, not, ◌&&◌}
use Rattle.facts.specs.domain.Sets.{is_rail, rails_in}
use Rattle.program_lints.proofs.Gained.{IsTold}
use Rattle.program_lints.proofs.power.PowerStates.may_be_on.Given as goal

abbrev pub invariant-loop-rail : goal.invariant-loop-rail
invariant-loop-rail l =
    IsTold (λ d x. x ≡ (is_rail d && not (rails_in l.off d))) (rails_in l.on) l.rail
