-- Printed numbers and how they are read.
use Rattle.std.specs.Prelude.{◌≡◌, ◌<◌, ◌≤◌, ◌^◌, ℕ, List, Some, IfSome, All}
use Rattle.std.specs.Fmt.{decimal}
use Rattle.texts.specs.Decimal.{decimal_within}
use Rattle.texts.specs.Hex.{pair_of, pair_text, pairs_of, pairs_text}

-- a byte's pair of digits
abbrev pub PairsReadBack : Type 0
PairsReadBack = (b : ℕ) → b < 256 → pair_of (pair_text b) ≡ Some b

-- and two digits are such a pair
abbrev pub PairsAreSpelled : Type 0
PairsAreSpelled = (text : List ℕ) → IfSome (pair_of text) (λ b. (b < 256) × (text ≡ pair_text b))

-- the pairs of bytes
abbrev pub BytesReadBack : Type 0
BytesReadBack = (bytes : List ℕ) → All (λ b. b < 256) bytes
    → pairs_of (pairs_text bytes) ≡ Some bytes

-- a number in decimal digits
abbrev pub DecimalsReadBack : Type 0
DecimalsReadBack = (most n : ℕ) → n ≤ most → most < 2 ^ 64
    → decimal_within most (decimal n) ≡ Some n

-- and decimal digits are those of a number
abbrev pub DecimalsAreSpelled : Type 0
DecimalsAreSpelled = (most : ℕ) (text : List ℕ) → most < 2 ^ 64
    → IfSome (decimal_within most text) (λ n. (n ≤ most) × (text ≡ decimal n))
