use Rattle.std.proofs.Common.{◌<◌, ℕ, IsTrue}
use Rattle.pmbus_table.specs.Protect.{is_protection}
use Rattle.facts.specs.domain.Rows.{row_view, set_at, IsSetOf}
use Rattle.facts.proofs.well_formed.misfitting.foreign_protects.Given as goal

abbrev pub invariant-loop-index : goal.invariant-loop-index
invariant-loop-index l = (i : ℕ) → i < l.index
    → IsSetOf (λ v. IsTrue (is_protection v)) (set_at (row_view l.row).protects i)
