use Rattle.std.proofs.Common.{rules, tests}
use Rattle.std.proofs.lemmas.Iterator.{IsFirst-from_position, YieldsList-from_slice}
use Rattle.targets.specs.Fitting.{IsIn}
use Rattle.facts.proofs.Coded.Firsts.{found_place}
use Rattle.facts.proofs.duties.allowing.first_outside.Goals as goal

pub returns : goal.returns
returns c =
    let In = IsIn c.args.range in
    found_place In c.args.bytes.now c.position.result
    (IsFirst-from_position _ _ c.position.result (λ byte. In byte → ⊥) In c.position.ensures.ran
    (YieldsList-from_slice c.args.bytes.now c.iter.ensures.rest)
    (λ x q k. search (rules, tests)) (λ x q k. search (rules, tests)))
