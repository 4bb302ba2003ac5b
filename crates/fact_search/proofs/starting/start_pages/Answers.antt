use Rattle.std.proofs.Common.{◌+◌, List, ℕ, All, IsTrue, sym, subst, take}
use Rattle.facts.specs.domain.Sets.{is_page, pages_in}
use Rattle.fact_search.specs.Starting.{HoldsJust, HoldEachStart}
use Rattle.fact_search.proofs.Rows.Starts.{each_done, each_more, start_pages_fit, target_of}
use Rattle.fact_search.proofs.starting.start_pages.Goals as goal

pub page_set-requires : goal.page_set-requires
page_set-requires c =
    let t = c.target-item.result in
    let P : List ℕ → Type 0 = λ xs. All (λ v. IsTrue (is_page v)) xs in
    subst P (sym c.start_pages.ensures)
    (start_pages_fit t (target_of c.args.targets.now c.loop-target.target-index t c.requires
    c.loop-target-test.true c.target-item.is))

pub loop-target-preserved : goal.loop-target-preserved
loop-target-preserved c =
    let t = c.target-item.result in
    let set = c.in_ok-page_set.field-0 in
    let P : List ℕ → Type 0 = λ xs. HoldsJust (pages_in set) xs in
    let Q : List ℕ → Type 0 = λ xs. HoldEachStart pages_in (λ u. u.start_pages) xs
    (take (c.loop-target.target-index + 1) c.args.targets.now) in
    subst Q (sym c.in_ok-push.ensures.items)
    (each_more pages_in (λ u. u.start_pages) c.loop-target.target-index c.loop-target.sets.items
    c.args.targets.now set t c.loop-target.invariant c.loop-target-test.true
    (sym c.target-item.is) (subst P c.start_pages.ensures c.in_ok-page_set.ensures))

pub returns : goal.returns
returns c =
    each_done pages_in (λ u. u.start_pages) c.loop-target.target-index c.loop-target.sets.items
    c.args.targets.now c.loop-target.invariant c.loop-target-test.false
