use Rattle.std.proofs.Common.{◌≡◌, ◌∙◌, rules, arith, lit<, lit≤}
use Rattle.texts.specs.Hex.{pair_of}
use Rattle.texts.proofs.HexDigits.{digits_read}
use Rattle.texts.proofs.HexLaws.{pair_only, pair_spelled}
use Rattle.texts.proofs.hex.pair_of.Goals as goal

pub returns : goal.returns
returns c =
    let read : c.ok.result ≡ pair_of c.args.text.now =
    c.ok.ensures.value ∙ digits_read 8 2 2 c.args.text.now _ c.from_str_radix.ensures.value
    (search rules) (lit< tt) (omega arith) (omega arith) (lit≤ tt) in
    record { value = read; spelled = pair_spelled _ _ read; only = pair_only _ _ read }
