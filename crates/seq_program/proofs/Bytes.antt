-- What pairs of digits spell are bytes.
use Rattle.std.proofs.Common.{◌≡◌, ℕ, ◌<◌, List, [], ◌∷◌, Option, Some, None, IfSome, option_map}
use Rattle.std.proofs.Common.{option_and_then, Bool, true, false, ◌*◌, ◌+◌, refl, arith}
use Rattle.std.specs.List.{AllByRecursion}
use Rattle.std.specs.Char.{digit_value}
use Rattle.std.proofs.lemmas.Bool.Decides.{nat_tests}
use Rattle.texts.specs.Hex.{is_digit, pair_of, pairs_of}

-- a pair of digits is a byte
small_digit : (c : ℕ) → is_digit c ≡ true → digit_value c < 16
small_digit c t = grind (arith, nat_tests)

below : (x y : ℕ) → x < 16 → y < 16 → (0 * 16 + x) * 16 + y < 256
below x y p q = omega arith

pair_below : (high low : ℕ) → IfSome (pair_of (high ∷ low ∷ [])) (λ b. b < 256)
pair_below high low = by (is_digit high) (is_digit low) refl refl
  where
    by : (s t : Bool) → is_digit high ≡ s → is_digit low ≡ t
        → IfSome (pair_of (high ∷ low ∷ [])) (λ b. b < 256)
    by true true s t =
        rw (s, t) (below (digit_value high) (digit_value low) (small_digit high s)
        (small_digit low t))
    by true false s t = rw (s, t) tt
    by false t s u = rw s tt

joined : (o : Option ℕ) (p : Option (List ℕ)) → IfSome o (λ b. b < 256)
    → IfSome p (λ bytes. AllByRecursion (λ b. b < 256) bytes)
    → IfSome (option_and_then (λ b. option_map (λ bs. b ∷ bs) p) o)
    (λ bytes. AllByRecursion (λ b. b < 256) bytes)
joined None p h k = tt
joined (Some b) None h k = tt
joined (Some b) (Some bytes) h k = (h, k)

pairs_below : (text : List ℕ)
    → IfSome (pairs_of text) (λ bytes. AllByRecursion (λ b. b < 256) bytes)
unfolding pairs_of
pairs_below [] = tt
pairs_below (c ∷ []) = tt
pairs_below (high ∷ low ∷ rest) =
    joined (pair_of (high ∷ low ∷ [])) (pairs_of rest) (pair_below high low) (pairs_below rest)

pub bytes_below : (text bytes : List ℕ) → Some bytes ≡ pairs_of text
    → AllByRecursion (λ b. b < 256) bytes
bytes_below text bytes e = rw (← e) at (pairs_below text)
