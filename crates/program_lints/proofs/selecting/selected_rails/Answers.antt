use Rattle.std.proofs.Common.{ap, subst}
use Rattle.std.specs.Prelude.{IsTrue}
use Rattle.facts.specs.domain.Rows.{row_view}
use Rattle.facts.specs.domain.Sets.{Set, rails_in}
use Rattle.program_lints.specs.Changes.{IsSelected}
use Rattle.program_lints.proofs.Gained.{nothing_told, one_more, all_told}
use Rattle.program_lints.proofs.selecting.selected_rails.Goals as goal

pub loop-rail-init : goal.loop-rail-init
loop-rail-init c =
    nothing_told
    (λ d x. IsTrue x → IsSelected c.args.board.now (row_view c.args.row.now) c.args.target d)
    (rails_in c.empty-selected.result) (λ d. ap (λ (s : Set). s d) c.empty-selected.ensures)

pub loop-rail-preserved : goal.loop-rail-preserved
loop-rail-preserved c =
    one_more
    (λ d x. IsTrue x → IsSelected c.args.board.now (row_view c.args.row.now) c.args.target d)
    (rails_in c.loop-rail.selected) (rails_in c.with_rail-selected.result) c.loop-rail.rail
    c.is_selected-is_in.result c.loop-rail.invariant c.with_rail-selected.ensures
    (λ t. subst (IsSelected c.args.board.now (row_view c.args.row.now) c.args.target)
    c.from.ensures (c.is_selected-is_in.ensures t))

pub returns : goal.returns
returns c =
    all_told
    (λ d x. IsTrue x → IsSelected c.args.board.now (row_view c.args.row.now) c.args.target d)
    c.loop-rail.selected c.loop-rail.rail c.loop-rail-test.false c.loop-rail.invariant
    (λ d le t. absurd (cc t))
