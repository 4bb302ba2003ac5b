-- The laws on printed numbers that the texts of tables need.
use Rattle.texts.specs.ReadBack.{PairsReadBack, PairsAreSpelled, DecimalsReadBack}
use Rattle.texts.specs.ReadBack.{DecimalsAreSpelled}

pub record KnownOfNumbers : Type 0 where
  pub pair : PairsReadBack
  pub pair_spelled : PairsAreSpelled
  pub decimal : DecimalsReadBack
  pub decimal_spelled : DecimalsAreSpelled

pub known : PairsReadBack → PairsAreSpelled → DecimalsReadBack → DecimalsAreSpelled
    → KnownOfNumbers
known pair pair_spelled decimal decimal_spelled = record {
  pair = pair;
  pair_spelled = pair_spelled;
  decimal = decimal;
  decimal_spelled = decimal_spelled;
}
