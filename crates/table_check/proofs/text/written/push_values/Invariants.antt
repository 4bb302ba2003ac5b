use Rattle.std.proofs.Common.{◌≡◌, ◌++◌, string_bytes}
use Rattle.texts.specs.Hex.{pair_text}
use Rattle.facts.specs.domain.Sets.{values_in}
use Rattle.table_check.specs.text.Written.{words_from}
use Rattle.table_check.proofs.text.written.push_values.Given as goal

abbrev pub invariant-loop-value : goal.invariant-loop-value
invariant-loop-value g l =
    string_bytes l.text
    ++ words_from (values_in g.K.Kind.is_value g.K.Kind.place l.set) pair_text l.value 256
    ≡ string_bytes l.fn.text
    ++ words_from (values_in g.K.Kind.is_value g.K.Kind.place l.set) pair_text 0 256
