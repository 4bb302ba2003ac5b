use Rattle.std.proofs.Common.{None, sym, subst, rules, tests}
use Rattle.std.proofs.lemmas.Iterator.{IsFirst-from_position, YieldsList-from_slice}
use Rattle.pmbus_table.specs.Protect.{protections}
use Rattle.facts.specs.duties.Permitting.{PermitsAt}
use Rattle.facts.specs.duties.Blaming.{FindsItem}
use Rattle.facts.proofs.Coded.Firsts.{Searched, found_place, found_item}
use Rattle.facts.proofs.duties.judging.least_forbidding.Goals as goal

pub returns-in_err-place : goal.returns-in_err-place
returns-in_err-place c =
    let Permits = PermitsAt c.args.protects c.args.code in
    let searched : Searched Permits protections c.position.result =
    IsFirst-from_position _ _ c.position.result (λ protect. Permits protect → ⊥) Permits
    c.position.ensures.ran (YieldsList-from_slice protections c.iter.ensures.rest)
    (λ x q k. search (rules, tests)) (λ x q k. search (rules, tests)) in
    subst (FindsItem Permits protections) (sym c.from_residual.ensures)
    (found_place Permits protections None
    (subst (Searched Permits protections) c.in_err-place.was searched))

pub returns : goal.returns
returns c =
    let Permits = PermitsAt c.args.protects c.args.code in
    let searched : Searched Permits protections c.position.result =
    IsFirst-from_position _ _ c.position.result (λ protect. Permits protect → ⊥) Permits
    c.position.ensures.ran (YieldsList-from_slice protections c.iter.ensures.rest)
    (λ x q k. search (rules, tests)) (λ x q k. search (rules, tests)) in
    found_item Permits protections c.in_ok-place.place 0
    (subst (Searched Permits protections) c.in_ok-place.was searched)
