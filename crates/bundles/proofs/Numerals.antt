-- Printed numbers of an answer are read back.
use Rattle.std.proofs.Common.{◌≡◌, ◌≤◌, ◌<◌, ℕ, ◌+◌, ◌*◌, ◌/◌, ◌%◌, ◌^◌, zero, suc, true, false}
use Rattle.std.proofs.Common.{◌==◌, nat_lt, List, [], ◌∷◌, length, All, Some}
use Rattle.std.proofs.Common.{inl, inr, refl, ap, ◌∙◌, arith, rules, lit<, lit≤}
use Rattle.std.specs.List.{list_all}
use Rattle.std.specs.Char.{is_ascii_digit}
use Rattle.std.specs.Fmt.{decimal, digits, digits_onto, digit_glyph}
use Rattle.std.specs.Str.Parse.{digits_value}
use Rattle.std.proofs.lemmas.Bool.{cases_Bool, and_from}
use Rattle.std.proofs.lemmas.Bool.Decides.{nat_tests}
use Rattle.std.proofs.lemmas.Fmt.{digits_decimal, digits_is_IsNumeral}
use Rattle.std.proofs.lemmas.List.Elements.{All-weaker, All-head, All-tail}
use Rattle.std.proofs.lemmas.List.Folds.{list_all-append}
use Rattle.std.proofs.lemmas.List.Sums.{AllPass-from_list_all}
use Rattle.std.proofs.lemmas.Str.Parse.{IsNumeralModel, numerals_by_value}
use Rattle.texts.specs.Hex.{is_digit, digit_of, pair_text, pairs_text, hex_number}
use Rattle.texts.specs.ReadBack.{PairsReadBack, BytesReadBack, DecimalsReadBack}
use Rattle.bundles.proofs.CutParts.{are_above, weaker}

-- what is known of numbers that are printed
pub record NumbersReadBack : Type 0 where
  pub pair : PairsReadBack
  pub bytes : BytesReadBack
  pub decimal : DecimalsReadBack

-- ---- decimal digits

abbrev HasDigits : List ℕ → Type 0
HasDigits text = list_all is_ascii_digit text ≡ true

own : IsNumeralModel HasDigits (digits_value 10)
own = numerals_by_value HasDigits (search rules)

digit_above : (b : ℕ) → is_ascii_digit b ≡ true → nat_lt 44 b ≡ true
digit_above b t = grind (arith, nat_tests)

pub decimal_above : (n : ℕ) → n < 2 ^ 64 → are_above 44 (decimal n) ≡ true
decimal_above n small =
    weaker is_ascii_digit (λ b. nat_lt 44 b) digit_above (decimal n) (digits_decimal own n small)

no_colon : (b : ℕ) → is_ascii_digit b ≡ true → (b == 58) ≡ false
no_colon b t = grind (arith, nat_tests)

pub decimal_without_colon : (n : ℕ) → n < 2 ^ 64 → All (λ b. (b == 58) ≡ false) (decimal n)
decimal_without_colon n small =
    All-weaker (λ b. is_ascii_digit b ≡ true) (λ b. (b == 58) ≡ false) no_colon (decimal n)
    (AllPass-from_list_all is_ascii_digit (decimal n) (digits_decimal own n small))

-- ---- upper case hexadecimal digits

hex_above : (b : ℕ) → is_digit b ≡ true → nat_lt 44 b ≡ true
hex_above b t = grind (arith, nat_tests)

hex_no_colon : (b : ℕ) → is_digit b ≡ true → (b == 58) ≡ false
hex_no_colon b t = grind (arith, nat_tests)

digit_is : (n : ℕ) → n < 16 → is_digit (digit_of n) ≡ true
digit_is n small = grind (arith, nat_tests)

pub pair_digits : (byte : ℕ) → byte < 256 → list_all is_digit (pair_text byte) ≡ true
pair_digits byte small =
    and_from _ _ (digit_is (byte / 16) (omega arith))
    (and_from _ _ (digit_is (byte % 16) (omega arith)) refl)

pairs_digits : (bytes : List ℕ) → All (λ byte. byte < 256) bytes
    → list_all is_digit (pairs_text bytes) ≡ true
pairs_digits [] small = refl
pairs_digits (byte ∷ bytes) small =
    list_all-append is_digit (pair_text byte) (pairs_text bytes)
    ∙ and_from _ _ (pair_digits byte (All-head (λ byte. byte < 256) byte bytes small))
    (pairs_digits bytes (All-tail (λ byte. byte < 256) byte bytes small))

pub pair_above : (byte : ℕ) → byte < 256 → are_above 44 (pair_text byte) ≡ true
pair_above byte small =
    weaker is_digit (λ b. nat_lt 44 b) hex_above (pair_text byte) (pair_digits byte small)

pub pair_without_colon : (byte : ℕ) → byte < 256 → All (λ b. (b == 58) ≡ false) (pair_text byte)
pair_without_colon byte small =
    All-weaker (λ b. is_digit b ≡ true) (λ b. (b == 58) ≡ false) hex_no_colon (pair_text byte)
    (AllPass-from_list_all is_digit (pair_text byte) (pair_digits byte small))

pub pairs_above : (bytes : List ℕ) → All (λ byte. byte < 256) bytes
    → are_above 44 (pairs_text bytes) ≡ true
pairs_above bytes small =
    weaker is_digit (λ b. nat_lt 44 b) hex_above (pairs_text bytes) (pairs_digits bytes small)

-- ---- numbers of one to four of them

glyph_is : (n : ℕ) → n < 16 → is_digit (digit_glyph true n) ≡ true
glyph_is n small = grind (arith, nat_tests)

all_digits : (k n : ℕ) (more : List ℕ) → list_all is_digit more ≡ true
    → list_all is_digit (digits_onto k 16 true n more) ≡ true
all_digits zero n more t = t
all_digits (suc k) n more t =
    let here = and_from _ _ (glyph_is (n % 16) (omega arith)) t in
    elim (cases_Bool (n / 16 == 0)) [
      | inl s ↦ rw s here
      | inr s ↦ rw s (all_digits k (n / 16) (digit_glyph true (n % 16) ∷ more) here)
    ]

-- numbers below a limit have at most so many digits
abbrev AreShort : ℕ → ℕ → Type 0
AreShort limit most = (k n : ℕ) (more : List ℕ) → n < limit
    → length (digits_onto k 16 true n more) ≤ most + length more

one_digit : AreShort 16 1
one_digit zero n more less = omega arith
one_digit (suc k) n more less =
    let none : n / 16 ≡ 0 = omega (arith, less) in
    rw none (omega arith)

one_more : (limit most : ℕ) → AreShort limit most → AreShort (16 * limit) (most + 1)
one_more limit most short zero n more less = omega arith
one_more limit most short (suc k) n more less =
    elim (cases_Bool (n / 16 == 0)) [
      | inl s ↦ rw s (omega arith)
      | inr s ↦ rw s (omega (
        arith,
        short k (n / 16) (digit_glyph true (n % 16) ∷ more)
            (omega (arith, less)),
      ))
    ]

four_digits : AreShort 65536 4
four_digits = one_more 4096 3 (one_more 256 2 (one_more 16 1 one_digit))

-- a number's digits
record Spells (n : ℕ) : Type 0 where
  all : list_all is_digit (digits 16 true n) ≡ true
  some : 1 ≤ length (digits 16 true n)
  few : length (digits 16 true n) ≤ 4
  value : digits_value 16 (digits 16 true n) ≡ n

spells : (n : ℕ) → n < 65536 → Spells n
unfolding digits
spells n small =
    let most : 65536 < 16 ^ 64 = lit< tt in
    let wide : n < 16 ^ 64 = omega (arith, small, most) in
    let numeral = digits_is_IsNumeral 16 true (lit≤ tt) (lit≤ tt) n wide in
    record {
      all = all_digits 64 n [] refl;
      some = numeral.0.0;
      few = four_digits 64 n [] small;
      value = numeral.1;
    }

pub number_above : (n : ℕ) → n < 65536 → are_above 44 (digits 16 true n) ≡ true
number_above n small =
    weaker is_digit (λ b. nat_lt 44 b) hex_above (digits 16 true n) (spells n small).all

spelled : (text : List ℕ) → list_all is_digit text ≡ true → 1 ≤ length text → length text ≤ 4
    → hex_number text ≡ Some (digits_value 16 text)
spelled text t some few = grind (arith, nat_tests)

pub number_back : (n : ℕ) → n < 65536 → hex_number (digits 16 true n) ≡ Some n
number_back n small =
    let s = spells n small in
    spelled (digits 16 true n) s.all s.some s.few ∙ ap Some s.value
