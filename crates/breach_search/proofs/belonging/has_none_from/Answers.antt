use Rattle.std.proofs.Common.{◌<◌, arith}
use Rattle.std.proofs.lemmas.Bool.{eqb-true}
use Rattle.breach_search.proofs.HighBits.{no_bit_from, none_left}
use Rattle.breach_search.proofs.belonging.has_none_from.Goals as goal

pub returns-then-place-ge16 : goal.returns-then-place-ge16
returns-then-place-ge16 c = λ _ i set.
    let small : c.args.bits < 65536 = omega arith in
    let few : i < 16 = no_bit_from c.args.bits 16 small i set in
    omega arith

pub returns-else-place-ge16 : goal.returns-else-place-ge16
returns-else-place-ge16 c = λ none i set.
    no_bit_from c.args.bits c.args.place
    (none_left c.args.bits c.args.place (eqb-true _ 0 none)) i set
