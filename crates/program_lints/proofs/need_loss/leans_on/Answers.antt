use Rattle.std.proofs.Common.{◌≡◌, ◌∙◌, ◌&&◌, ℕ, not, ap, sym}
use Rattle.std.specs.Prelude.{◌==◌}
use Rattle.facts.specs.domain.Sets.{Set, rails_in}
use Rattle.program_lints.proofs.Gained.{nothing_told, one_more, all_told, alike, no_rail}
use Rattle.program_lints.proofs.Gained.{false_and}
use Rattle.program_lints.proofs.need_loss.leans_on.Goals as goal

pub loop-rail-init : goal.loop-rail-init
loop-rail-init c =
    nothing_told (λ d x. x ≡ (rails_in c.leaning-leaning.result d && not (d == c.args.need)))
    (rails_in c.empty-others.result) (λ d. ap (λ (s : Set). s d) c.empty-others.ensures)

pub loop-rail-preserved : goal.loop-rail-preserved
loop-rail-preserved c =
    one_more (λ d x. x ≡ (rails_in c.leaning-leaning.result d && not (d == c.args.need)))
    (rails_in c.loop-rail.others) (rails_in c.with_rail-others.result) c.loop-rail.rail
    c.is_other-is_in.result c.loop-rail.invariant c.with_rail-others.ensures
    c.is_other-is_in.ensures

pub returns : goal.returns
returns c =
    let bits = c.leaning-leaning.result in
    let need = c.args.need in
    let each : (d : ℕ) → rails_in c.loop-rail.others d ≡ (rails_in bits d && not (d == need)) =
    all_told (λ d x. x ≡ (rails_in bits d && not (d == need))) c.loop-rail.others
    c.loop-rail.rail c.loop-rail-test.false c.loop-rail.invariant
    (λ d le. sym (false_and (rails_in bits d) (not (d == need)) (no_rail bits d le))) in
    alike (rails_in c.loop-rail.others) (λ d. rails_in bits d && not (d == need)) each
    ∙ ap (λ (s : Set). λ d. s d && not (d == need)) c.leaning-leaning.ensures
