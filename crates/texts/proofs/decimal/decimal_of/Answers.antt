use Rattle.std.proofs.Common.{◌∙◌, rules}
use Rattle.texts.proofs.DecimalTexts.{decimal_parsed}
use Rattle.texts.proofs.decimal.decimal_of.Goals as goal

pub returns-then-is_decimal : goal.returns-then-is_decimal
returns-then-is_decimal c =
    c.ok.ensures.value ∙ decimal_parsed c.args.text.now _ c.parse.ensures.value.0 (search rules)
