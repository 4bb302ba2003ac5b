use Rattle.std.proofs.Common.{◌≡◌, ◌∙◌, ap, sym}
use Rattle.facts.specs.domain.Rows.{row_view}
use Rattle.facts.specs.domain.Sets.{Set, rails_in}
use Rattle.facts.specs.duties.Duties.{is_touched}
use Rattle.program_lints.proofs.Gained.{nothing_told, one_more, all_told}
use Rattle.program_lints.proofs.Touched.{untouched}
use Rattle.program_lints.proofs.selecting.touched_rails.Goals as goal

pub loop-rail-init : goal.loop-rail-init
loop-rail-init c =
    nothing_told (λ d x. x ≡ is_touched c.args.board.now (row_view c.args.row.now) c.args.target d)
    (rails_in c.empty-touched.result) (λ d. ap (λ (s : Set). s d) c.empty-touched.ensures)

pub loop-rail-preserved : goal.loop-rail-preserved
loop-rail-preserved c =
    one_more (λ d x. x ≡ is_touched c.args.board.now (row_view c.args.row.now) c.args.target d)
    (rails_in c.loop-rail.touched) (rails_in c.with_rail-touched.result) c.loop-rail.rail
    c.is_touched-is_in.result c.loop-rail.invariant c.with_rail-touched.ensures
    (c.is_touched-is_in.ensures
    ∙ ap (is_touched c.args.board.now (row_view c.args.row.now) c.args.target) c.from.ensures)

pub returns : goal.returns
returns c = λ d touched.
    all_told (λ d x. x ≡ is_touched c.args.board.now (row_view c.args.row.now) c.args.target d)
    c.loop-rail.touched c.loop-rail.rail c.loop-rail-test.false c.loop-rail.invariant
    (λ d le. sym (untouched c.args.board.now (row_view c.args.row.now) c.args.target d
    c.board_is_valid.ensures le)) d
    ∙ touched
