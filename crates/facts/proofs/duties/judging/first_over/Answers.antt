use Rattle.std.proofs.Common.{◌∙◌, rules, tests}
use Rattle.std.proofs.lemmas.Iterator.{IsFirst-from_position, YieldsList-from_slice}
use Rattle.board.specs.Boards.{Rail}
use Rattle.facts.specs.duties.Touching.{IsWithinLimit}
use Rattle.facts.proofs.Coded.Firsts.{found_place}
use Rattle.facts.proofs.duties.judging.first_over.Goals as goal

pub returns : goal.returns
returns c =
    let Within =
    IsWithinLimit c.args.pages c.args.target c.args.device.now.exponent c.args.voltage in
    found_place Within c.args.board.now.rails c.position.result
    (IsFirst-from_position _ _ c.position.result (λ (rail : Rail). Within rail → ⊥) Within
    c.position.ensures.ran
    (YieldsList-from_slice c.args.board.now.rails (c.iter.ensures.rest ∙ c.rails.ensures.rails))
    (λ x q k. search (rules, tests)) (λ x q k. search (rules, tests)))
