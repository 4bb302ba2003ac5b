-- Reading hexadecimal digits gives back what was printed.
use Rattle.std.proofs.Common.{◌≡◌, ℕ, ◌<◌, ◌*◌, ◌+◌, ◌/◌, ◌%◌, List, [], ◌∷◌, ◌++◌, length, Bool}
use Rattle.std.proofs.Common.{true, false, ◌&&◌, All, Option, Some, None, IfSome, option_map}
use Rattle.std.proofs.Common.{option_and_then, if◌then◌else◌, nat_le, refl, sym, ap, ◌∙◌, arith}
use Rattle.std.proofs.Common.{suc, lit≤}
use Rattle.std.specs.List.{list_all}
use Rattle.std.specs.Char.{digit_value}
use Rattle.std.specs.Str.Parse.{digits_value}
use Rattle.std.proofs.lemmas.Bool.Decides.{nat_tests}
use Rattle.texts.specs.Hex.{is_digit, digit_of, pair_of, pair_text, pairs_of, pairs_text}
use Rattle.texts.specs.Hex.{hex_number, word_text}
use Rattle.texts.proofs.HexDigits.{digit_below, digits_spell, both}

is_digit_printed : (n : ℕ) → n < 16 → is_digit (digit_of n) ≡ true
is_digit_printed n small = grind (arith, nat_tests)

digit_value_printed : (n : ℕ) → n < 16 → digit_value (digit_of n) ≡ n
digit_value_printed n small = grind (arith, nat_tests)

digit_of_read : (c : ℕ) → is_digit c ≡ true → digit_of (digit_value c) ≡ c
digit_of_read c t = grind (arith, nat_tests)

both_true : (a b : Bool) → a ≡ true → b ≡ true → (a && b) ≡ true
both_true a b s t = grind (arith, nat_tests)

value_back : (x y b : ℕ) → x ≡ b / 16 → y ≡ b % 16 → (0 * 16 + x) * 16 + y ≡ b
value_back x y b p q = omega arith

below_back : (x y : ℕ) → x < 16 → y < 16 → (0 * 16 + x) * 16 + y < 256
below_back x y p q = omega arith

high_back : (x y : ℕ) → y < 16 → ((0 * 16 + x) * 16 + y) / 16 ≡ x
high_back x y small = omega arith

low_back : (x y : ℕ) → y < 16 → ((0 * 16 + x) * 16 + y) % 16 ≡ y
low_back x y small = omega arith

two : (a b c d : ℕ) → a ≡ c → b ≡ d → a ∷ b ∷ [] ≡ c ∷ d ∷ []
two a b c d p q = cc

-- a byte
pub pair_of-pair_text : (b : ℕ) → b < 256 → pair_of (pair_text b) ≡ Some b
pair_of-pair_text b small =
    let h : b / 16 < 16 = omega arith in
    let l : b % 16 < 16 = omega arith in
    digits_spell 2 2 (pair_text b)
    (both_true _ _ (is_digit_printed (b / 16) h) (both_true _ _ (is_digit_printed (b % 16) l) refl))
    (lit≤ tt) (lit≤ tt)
    ∙ ap Some (value_back _ _ b (digit_value_printed (b / 16) h) (digit_value_printed (b % 16) l))

if_spelled : (t : Bool) (v : ℕ) (P : ℕ → Type 0) → (t ≡ true → P v)
    → IfSome (if t then Some v else None) P
if_spelled true v P h = h refl
if_spelled false v P h = tt

two_digits : (text : List ℕ) → length text ≡ 2 → list_all is_digit text ≡ true
    → (digits_value 16 text < 256) × (text ≡ pair_text (digits_value 16 text))
two_digits [] e t = absurd (omega arith)
two_digits (c ∷ []) e t = absurd (omega arith)
two_digits (h ∷ l ∷ []) e t =
    let high = (both (is_digit h) _ t).0 in
    let low = (both (is_digit l) true (both (is_digit h) _ t).1).0 in
    let x = digit_below h high in
    let y = digit_below l low in (
      below_back _ _ x y,
      two h l _ _ (sym (ap digit_of (high_back _ _ y) ∙ digit_of_read h high))
          (sym (ap digit_of (low_back (digit_value h) _ y) ∙ digit_of_read l low)),
    )
two_digits (h ∷ l ∷ x ∷ more) e t = absurd (omega arith)

test_parts : (n : ℕ) (d : Bool) → ((nat_le 2 n && nat_le n 2) && d) ≡ true → (n ≡ 2) × (d ≡ true)
test_parts n true t = (grind (arith, nat_tests), refl)
test_parts n false t = grind (arith, nat_tests)

pub pair_of_spelled : (text : List ℕ)
    → IfSome (pair_of text) (λ b. (b < 256) × (text ≡ pair_text b))
pair_of_spelled text =
    if_spelled _ _ _
    (λ t. let p = test_parts (length text) (list_all is_digit text) t in two_digits text p.0 p.1)

-- bytes
pub pairs_of-pairs_text : (bytes : List ℕ) → All (λ b. b < 256) bytes
    → pairs_of (pairs_text bytes) ≡ Some bytes
unfolding pairs_of
pairs_of-pairs_text [] small = refl
pairs_of-pairs_text (b ∷ bytes) small =
    let front = λ (o : Option ℕ).
    option_and_then (λ b. option_map (λ bs. b ∷ bs) (pairs_of (pairs_text bytes))) o in
    ap front (pair_of-pair_text b (small 0 0 (omega arith)))
    ∙ ap (option_map (λ bs. b ∷ bs))
    (pairs_of-pairs_text bytes (λ k d h. small (suc k) d (omega arith)))

joined : (front rest : List ℕ) (o : Option ℕ) (p : Option (List ℕ))
    → IfSome o (λ b. (b < 256) × (front ≡ pair_text b))
    → IfSome p (λ bytes. rest ≡ pairs_text bytes)
    → IfSome (option_and_then (λ b. option_map (λ bs. b ∷ bs) p) o)
    (λ bytes. front ++ rest ≡ pairs_text bytes)
joined front rest None p h t = tt
joined front rest (Some b) None h t = tt
joined front rest (Some b) (Some bytes) h t = rw (h.1, t) refl

pub pairs_of_spelled : (text : List ℕ) → IfSome (pairs_of text) (λ bytes. text ≡ pairs_text bytes)
unfolding pairs_of
pairs_of_spelled [] = refl
pairs_of_spelled (c ∷ []) = tt
pairs_of_spelled (h ∷ l ∷ rest) =
    joined (h ∷ l ∷ []) rest (pair_of (h ∷ l ∷ [])) (pairs_of rest) (pair_of_spelled (h ∷ l ∷ []))
    (pairs_of_spelled rest)

word_back : (p q r s w : ℕ) → p ≡ w / 256 / 16 → q ≡ w / 256 % 16 → r ≡ w % 256 / 16
    → s ≡ w % 256 % 16 → (((0 * 16 + p) * 16 + q) * 16 + r) * 16 + s ≡ w
word_back p q r s w a b c d = omega arith

-- a word
pub hex_number-word_text : (w : ℕ) → w < 65536 → hex_number (word_text w) ≡ Some w
hex_number-word_text w small =
    let a : w / 256 / 16 < 16 = omega arith in
    let b : w / 256 % 16 < 16 = omega arith in
    let c : w % 256 / 16 < 16 = omega arith in
    let d : w % 256 % 16 < 16 = omega arith in
    digits_spell 1 4 (word_text w)
    (both_true _ _ (is_digit_printed _ a) (both_true _ _ (is_digit_printed _ b)
    (both_true _ _ (is_digit_printed _ c) (both_true _ _ (is_digit_printed _ d) refl)))) (lit≤ tt)
    (lit≤ tt)
    ∙ ap Some (word_back _ _ _ _ w (digit_value_printed _ a) (digit_value_printed _ b)
    (digit_value_printed _ c) (digit_value_printed _ d))

-- the same of what a reader returned
pub pair_only : (text : List ℕ) (r : Option ℕ) → r ≡ pair_of text → (b : ℕ) → b < 256
    → text ≡ pair_text b → r ≡ Some b
pair_only text r e b small p = e ∙ rw p (pair_of-pair_text b small)

pub pair_spelled : (text : List ℕ) (r : Option ℕ) → r ≡ pair_of text
    → IfSome r (λ b. text ≡ pair_text b)
pair_spelled text None e = tt
pair_spelled text (Some b) e = (rw (← e) at (pair_of_spelled text)).1

pub pairs_only : (text : List ℕ) (r : Option (List ℕ)) → r ≡ pairs_of text → (bytes : List ℕ)
    → All (λ b. b < 256) bytes → text ≡ pairs_text bytes → r ≡ Some bytes
pairs_only text r e bytes small p = e ∙ rw p (pairs_of-pairs_text bytes small)

pub pairs_spelled : (text bytes : List ℕ) → Some bytes ≡ pairs_of text → text ≡ pairs_text bytes
pairs_spelled text bytes e = rw (← e) at (pairs_of_spelled text)

pub word_only : (text : List ℕ) (r : Option ℕ) → r ≡ hex_number text → (w : ℕ) → w < 65536
    → text ≡ word_text w → r ≡ Some w
word_only text r e w small p = e ∙ rw p (hex_number-word_text w small)
