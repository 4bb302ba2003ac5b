use Rattle.std.proofs.Common.{◌+◌, List, ℕ, All, IsTrue, sym, subst, take}
use Rattle.facts.specs.domain.Sets.{is_protect, protects_in}
use Rattle.fact_search.specs.Starting.{HoldsJust, HoldEachStart}
use Rattle.fact_search.proofs.Rows.Starts.{each_done, each_more, start_protects_fit, target_of}
use Rattle.fact_search.proofs.starting.start_protects.Goals as goal

pub protect_set-requires : goal.protect_set-requires
protect_set-requires c =
    let t = c.target-item.result in
    let P : List ℕ → Type 0 = λ xs. All (λ v. IsTrue (is_protect v)) xs in
    subst P (sym c.start_protects.ensures)
    (start_protects_fit t (target_of c.args.targets.now c.loop-target.target-index t c.requires
    c.loop-target-test.true c.target-item.is))

pub loop-target-preserved : goal.loop-target-preserved
loop-target-preserved c =
    let t = c.target-item.result in
    let set = c.in_ok-protect_set.field-0 in
    let P : List ℕ → Type 0 = λ xs. HoldsJust (protects_in set) xs in
    let Q : List ℕ → Type 0 = λ xs. HoldEachStart protects_in (λ u. u.start_protects) xs
    (take (c.loop-target.target-index + 1) c.args.targets.now) in
    subst Q (sym c.in_ok-push.ensures.items)
    (each_more protects_in
    (λ u. u.start_protects) c.loop-target.target-index c.loop-target.sets.items
    c.args.targets.now set t c.loop-target.invariant c.loop-target-test.true
    (sym c.target-item.is) (subst P c.start_protects.ensures c.in_ok-protect_set.ensures))

pub returns : goal.returns
returns c =
    each_done protects_in
    (λ u. u.start_protects) c.loop-target.target-index c.loop-target.sets.items
    c.args.targets.now c.loop-target.invariant c.loop-target-test.false
