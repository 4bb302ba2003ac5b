use Rattle.std.proofs.Common.{◌<◌, ℕ, IsTrue}
use Rattle.board.specs.Boards.{Target}
use Rattle.board.specs.Valid.{is_page_value}
use Rattle.targets.specs.States.{IsTargetAt}
use Rattle.facts.specs.domain.Rows.{row_view, set_at, IsSetOf}
use Rattle.facts.proofs.well_formed.misfitting.foreign_pages.Given as goal

abbrev pub invariant-loop-index : goal.invariant-loop-index
invariant-loop-index l = (i : ℕ) → i < l.index → (t : Target) → IsTargetAt l.board i t
    → IsSetOf (λ v. IsTrue (is_page_value t.pages v)) (set_at (row_view l.row).pages i)
