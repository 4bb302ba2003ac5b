use Rattle.std.proofs.Common.{◌≡◌, ℕ, IsTrue, ap, inl, inr, length, List, arith, subst}
use Rattle.std.proofs.lemmas.Bool.{cases_lt}
use Rattle.board.specs.Boards.{Target}
use Rattle.pmbus_table.specs.Protect.{is_protection}
use Rattle.facts.specs.domain.Rows.{row_view, set_at, IsSetOf}
use Rattle.facts.proofs.Belongs.EachTargets.{not_met}
use Rattle.facts.proofs.well_formed.misfitting.foreign_protects.Goals as goal

pub returns-then-not-has_protect_set : goal.returns-then-not-has_protect_set
returns-then-not-has_protect_set c =
    let lt = c.loop-index-test.true in
    let count = ap (λ (ts : List Target). length ts) c.targets-index-end.ensures.targets in (
      (λ fits. not_met _ _ c.has_protect_set.ensures c.if-not-has_protect_set.true
          (fits (omega (arith, lt, count)))),
      (λ i before inside. c.loop-index.invariant i before),
    )

pub loop-index-preserved : goal.loop-index-preserved
loop-index-preserved c = λ i lt. elim (cases_lt i c.loop-index.index) [
  | inl before ↦ c.loop-index.invariant i before
  | inr le ↦
      let last : c.loop-index.index ≡ i = omega (arith, lt, le) in
      let P : ℕ → Type 0 = λ n.
      IsSetOf (λ v. IsTrue (is_protection v)) (set_at (row_view c.args.row.now).protects n) in
      subst P last (c.has_protect_set.ensures.0 c.if-not-has_protect_set.false)
]

pub returns : goal.returns
returns c =
    let stop = c.loop-index-test.false in
    let count = ap (λ (ts : List Target). length ts) c.targets-index-end.ensures.targets in
    λ n inside. c.loop-index.invariant n (omega (arith, stop, count, inside))
