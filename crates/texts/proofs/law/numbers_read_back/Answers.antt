use Rattle.texts.proofs.DecimalTexts.{decimal_within-decimal}
use Rattle.texts.proofs.HexLaws.{pair_of-pair_text, pairs_of-pairs_text}
use Rattle.texts.proofs.law.numbers_read_back.Goals as goal

pub returns-clause-pair : goal.returns-clause-pair
returns-clause-pair c = pair_of-pair_text

pub returns-clause-bytes : goal.returns-clause-bytes
returns-clause-bytes c = pairs_of-pairs_text

pub returns-clause-decimal : goal.returns-clause-decimal
returns-clause-decimal c = decimal_within-decimal
