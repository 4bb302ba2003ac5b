use Rattle.std.specs.Prelude.{IsTrue}
use Rattle.facts.specs.domain.Rows.{row_view}
use Rattle.facts.specs.domain.Sets.{rails_in}
use Rattle.program_lints.specs.Changes.{IsSelected}
use Rattle.program_lints.proofs.Gained.{IsTold}
use Rattle.program_lints.proofs.selecting.selected_rails.Given as goal

abbrev pub invariant-loop-rail : goal.invariant-loop-rail
invariant-loop-rail l =
    IsTold (λ d x. IsTrue x → IsSelected l.board (row_view l.row) l.fn.target d)
    (rails_in l.selected) l.rail
