use Rattle.std.proofs.Common.{◌≡◌, ◌∙◌, rules, arith, lit<, lit≤}
use Rattle.std.proofs.lemmas.Bool.Decides.{nat_tests}
use Rattle.texts.specs.Hex.{hex_number}
use Rattle.texts.proofs.HexDigits.{digits_read}
use Rattle.texts.proofs.HexLaws.{word_only}
use Rattle.texts.proofs.hex.hex_number.Goals as goal

pub returns : goal.returns
returns c =
    let read : c.ok.result ≡ hex_number c.args.text.now = c.ok.ensures.value
    ∙ digits_read 16 1 4 c.args.text.now _ c.from_str_radix.ensures.value (search rules) (lit< tt)
    (grind (arith, nat_tests, c.is_empty.ensures)) (omega arith) (lit≤ tt) in
    record { value = read; only = word_only _ _ read }
