use Rattle.std.proofs.Common.{◌++◌, ◌∙◌, ap, arith, length, string_bytes, List}
use Rattle.board.specs.Boards.{Rail}
use Rattle.facts.specs.domain.Sets.{rails_in}
use Rattle.table_check.specs.text.Lines.{name_at}
use Rattle.table_check.proofs.Texts.Values.{value_written, values_written, all_rails}
use Rattle.table_check.proofs.text.written.push_good.Goals as goal

pub loop-rail-preserved : goal.loop-rail-preserved
loop-rail-preserved c =
    let same = ap (λ (rails : List Rail). length rails) c.rails.ensures.rails in
    value_written (rails_in c.args.set) (name_at c.args.board.now.rail_names) c.loop-rail.rail
    (length c.args.board.now.rails) _ _ _
    (omega (arith, same, c.loop-rail-test.true, c.rails.ensures.board.few_rails))
    c.in_ok-push_rail.ensures
    c.loop-rail.invariant

pub returns : goal.returns
returns c =
    let same = ap (λ (rails : List Rail). length rails) c.rails.ensures.rails in
    values_written (rails_in c.args.set) (name_at c.args.board.now.rail_names) c.loop-rail.rail
    (length c.args.board.now.rails) _ _
    (omega (arith, same, c.loop-rail-test.false, c.rails.ensures.board.few_rails))
    c.loop-rail.invariant
    ∙ ap (λ xs. string_bytes c.args.text.now ++ xs)
    (all_rails c.args.board.now (rails_in c.args.set))
