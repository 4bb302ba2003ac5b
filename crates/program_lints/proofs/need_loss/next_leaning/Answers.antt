use Rattle.std.proofs.Common.{◌≡◌, ◌∙◌, ℕ, ap, sym}
use Rattle.facts.specs.domain.Sets.{Set, rails_in}
use Rattle.program_lints.specs.Lints.{next_leaning}
use Rattle.program_lints.proofs.Gained.{nothing_told, one_more, all_told, alike}
use Rattle.program_lints.proofs.Leaning.{none_leans}
use Rattle.program_lints.proofs.need_loss.next_leaning.Goals as goal

pub loop-rail-init : goal.loop-rail-init
loop-rail-init c =
    nothing_told (λ d x. x ≡ next_leaning c.args.board.now (rails_in c.args.rails) d)
    (rails_in c.empty-next.result) (λ d. ap (λ (s : Set). s d) c.empty-next.ensures)

pub loop-rail-preserved : goal.loop-rail-preserved
loop-rail-preserved c =
    one_more (λ d x. x ≡ next_leaning c.args.board.now (rails_in c.args.rails) d)
    (rails_in c.loop-rail.next) (rails_in c.with_rail-next.result) c.loop-rail.rail
    c.leans-is_in.result c.loop-rail.invariant c.with_rail-next.ensures
    (c.leans-is_in.ensures
    ∙ ap (next_leaning c.args.board.now (rails_in c.args.rails)) c.from.ensures)

pub returns : goal.returns
returns c =
    let each : (d : ℕ) → rails_in c.loop-rail.next d
    ≡ next_leaning c.args.board.now (rails_in c.args.rails) d =
    all_told (λ d x. x ≡ next_leaning c.args.board.now (rails_in c.args.rails) d)
    c.loop-rail.next c.loop-rail.rail c.loop-rail-test.false c.loop-rail.invariant
    (λ d le. sym (none_leans c.args.board.now c.args.rails d c.board_is_valid.ensures le)) in
    alike (rails_in c.loop-rail.next) (next_leaning c.args.board.now (rails_in c.args.rails)) each
