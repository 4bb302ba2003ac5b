-- The laws on printed numbers and names that printed programs need.
use Rattle.texts.specs.ReadBack.{PairsReadBack, BytesReadBack, DecimalsReadBack}
use Rattle.pmbus_table.specs.NameLaws.{NamesReadBack, ManufacturersAreDigits}

pub record KnownOfTexts : Type 0 where
  pub pair : PairsReadBack
  pub bytes : BytesReadBack
  pub decimal : DecimalsReadBack
  pub names : NamesReadBack
  pub digits : ManufacturersAreDigits
