use Rattle.std.proofs.Common.{◌≡◌, ap, sym}
use Rattle.facts.specs.domain.Sets.{Set, rails_in}
use Rattle.program_lints.specs.Lints.{on_board}
use Rattle.program_lints.proofs.Gained.{nothing_told, one_more, all_told, no_rail, and_false}
use Rattle.program_lints.proofs.lints.of_board.Goals as goal

pub loop-rail-init : goal.loop-rail-init
loop-rail-init c =
    nothing_told (λ d x. x ≡ on_board c.args.board.now (rails_in c.args.rails) d)
    (rails_in c.empty-own.result) (λ d. ap (λ (s : Set). s d) c.empty-own.ensures)

pub loop-rail-preserved : goal.loop-rail-preserved
loop-rail-preserved c =
    one_more (λ d x. x ≡ on_board c.args.board.now (rails_in c.args.rails) d)
    (rails_in c.loop-rail.own) (rails_in c.with_rail-own.result) c.loop-rail.rail
    c.is_of_board-is_in.result c.loop-rail.invariant c.with_rail-own.ensures
    c.is_of_board-is_in.ensures

pub returns : goal.returns
returns c =
    all_told (λ d x. x ≡ on_board c.args.board.now (rails_in c.args.rails) d)
    c.loop-rail.own c.loop-rail.rail c.loop-rail-test.false c.loop-rail.invariant
    (λ d le. sym (and_false _ (rails_in c.args.rails d) (no_rail c.args.rails d le)))
