use Rattle.texts.proofs.DecimalTexts.{decimal_within_spelled}
use Rattle.texts.proofs.HexLaws.{pair_of_spelled}
use Rattle.texts.proofs.law.numbers_are_spelled.Goals as goal

pub returns-clause-pair : goal.returns-clause-pair
returns-clause-pair c = pair_of_spelled

pub returns-clause-decimal : goal.returns-clause-decimal
returns-clause-decimal c = decimal_within_spelled
