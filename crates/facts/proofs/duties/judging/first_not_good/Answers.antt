use Rattle.std.proofs.Common.{ℕ, None, IsTrue, sym, subst, rules, tests}
use Rattle.std.proofs.lemmas.Iterator.{IsFirst-from_position, YieldsList-from_slice}
use Rattle.facts.specs.domain.Sets.{rails_in}
use Rattle.facts.specs.duties.Blaming.{FindsItem}
use Rattle.facts.proofs.Coded.Firsts.{Searched, found_place, found_item}
use Rattle.facts.proofs.duties.judging.first_not_good.Goals as goal

pub returns-in_err-place : goal.returns-in_err-place
returns-in_err-place c =
    let Good = λ (rail : ℕ). IsTrue (rails_in c.args.good rail) in
    let rails = c.args.rails.now in
    let searched : Searched Good rails c.position.result =
    IsFirst-from_position _ _ c.position.result (λ rail. Good rail → ⊥) Good c.position.ensures.ran
    (YieldsList-from_slice rails c.iter.ensures.rest)
    (λ x q k. search (rules, tests)) (λ x q k. search (rules, tests)) in
    subst (FindsItem Good rails) (sym c.from_residual.ensures)
    (found_place Good rails None (subst (Searched Good rails) c.in_err-place.was searched))

pub returns : goal.returns
returns c =
    let Good = λ (rail : ℕ). IsTrue (rails_in c.args.good rail) in
    let rails = c.args.rails.now in
    let searched : Searched Good rails c.position.result =
    IsFirst-from_position _ _ c.position.result (λ rail. Good rail → ⊥) Good c.position.ensures.ran
    (YieldsList-from_slice rails c.iter.ensures.rest)
    (λ x q k. search (rules, tests)) (λ x q k. search (rules, tests)) in
    found_item Good rails c.in_ok-place.place 0
    (subst (Searched Good rails) c.in_ok-place.was searched)
