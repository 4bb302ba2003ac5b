use Rattle.std.proofs.Common.{◌≡◌}
use Rattle.facts.specs.domain.Rows.{row_view}
use Rattle.facts.specs.domain.Sets.{rails_in}
use Rattle.facts.specs.duties.Duties.{is_touched}
use Rattle.program_lints.proofs.Gained.{IsTold}
use Rattle.program_lints.proofs.selecting.touched_rails.Given as goal

abbrev pub invariant-loop-rail : goal.invariant-loop-rail
invariant-loop-rail l =
    IsTold (λ d x. x ≡ is_touched l.board (row_view l.row) l.fn.target d) (rails_in l.touched)
    l.rail
