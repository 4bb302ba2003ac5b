use Rattle.std.proofs.Common.{◌++◌, ◌∙◌, ap, arith, string_bytes}
use Rattle.texts.specs.Hex.{pair_text}
use Rattle.facts.specs.domain.Sets.{values_in}
use Rattle.table_check.proofs.Texts.Values.{value_written, values_written, all_bytes}
use Rattle.table_check.proofs.text.written.push_values.Goals as goal

pub loop-value-preserved : goal.loop-value-preserved
loop-value-preserved g c =
    let s = values_in g.K.Kind.is_value g.K.Kind.place c.args.set in
    value_written s pair_text c.loop-value.value 256 _ _ _
    c.loop-value-test.true c.in_ok-push_value.ensures c.loop-value.invariant

pub returns : goal.returns
returns g c =
    let s = values_in g.K.Kind.is_value g.K.Kind.place c.args.set in
    values_written s pair_text c.loop-value.value 256 _ _
    (omega arith) c.loop-value.invariant
    ∙ ap (λ xs. string_bytes c.args.text.now ++ xs) (all_bytes s)
