use Rattle.std.proofs.Common.{◌≡◌}
use Rattle.facts.specs.domain.Sets.{rails_in}
use Rattle.program_lints.specs.Lints.{on_board}
use Rattle.program_lints.proofs.Gained.{IsTold}
use Rattle.program_lints.proofs.lints.of_board.Given as goal

abbrev pub invariant-loop-rail : goal.invariant-loop-rail
invariant-loop-rail l =
    IsTold (λ d x. x ≡ on_board l.board (rails_in l.fn.rails) d) (rails_in l.own) l.rail
