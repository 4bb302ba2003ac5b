use Rattle.std.proofs.Common.{◌≡◌, ◌∙◌, ◌&&◌, ℕ, List, not, ap, sym}
use Rattle.facts.specs.domain.Rows.{set_at}
use Rattle.facts.specs.domain.Sets.{Set, is_rail, rails_in}
use Rattle.program_lints.specs.PowerStates.{sets_in}
use Rattle.program_lints.proofs.Gained.{nothing_told, one_more, all_told, of_rail, beyond_rails}
use Rattle.program_lints.proofs.Gained.{alike}
use Rattle.program_lints.proofs.power.PowerStates.may_be_on.Goals as goal

pub loop-rail-init : goal.loop-rail-init
loop-rail-init c =
    nothing_told (λ d x. x ≡ (is_rail d && not (rails_in c.set_at-off.result d)))
    (rails_in c.empty-on.result) (λ d. ap (λ (s : Set). s d) c.empty-on.ensures)

pub loop-rail-preserved : goal.loop-rail-preserved
loop-rail-preserved c =
    one_more (λ d x. x ≡ (is_rail d && not (rails_in c.set_at-off.result d)))
    (rails_in c.loop-rail.on) (rails_in c.with_rail-on.result) c.loop-rail.rail
    (not c.contains-is_in.result) c.loop-rail.invariant c.with_rail-on.ensures
    (ap not c.contains-is_in.ensures
    ∙ sym (of_rail c.loop-rail.rail (not (rails_in c.set_at-off.result c.loop-rail.rail))
    c.loop-rail-test.true))

pub returns : goal.returns
returns c =
    let off = c.set_at-off.result in
    let each : (d : ℕ) → rails_in c.loop-rail.on d ≡ (is_rail d && not (rails_in off d)) =
    all_told (λ d x. x ≡ (is_rail d && not (rails_in off d)))
    c.loop-rail.on c.loop-rail.rail c.loop-rail-test.false c.loop-rail.invariant
    (λ d le. sym (beyond_rails d (not (rails_in off d)) le)) in
    alike (rails_in c.loop-rail.on) (λ d. is_rail d && not (rails_in off d)) each
    ∙ (ap (λ (s : Set). λ d. is_rail d && not (s d)) c.set_at-off.ensures
    ∙ ap (λ (xs : List ℕ). λ d. is_rail d && not (set_at (sets_in xs) c.args.place d))
    c.deref.ensures.value)
