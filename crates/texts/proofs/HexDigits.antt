-- Upper case hexadecimal digits are numerals of `from_str_radix`.
use Rattle.std.proofs.Common.{◌≡◌, ◌≢◌, ℕ, ◌<◌, ◌≤◌, ◌^◌, List, [], ◌∷◌, length, get_or, Bool, true}
use Rattle.std.proofs.Common.{false, ◌&&◌, Result, Ok, Err, Some, refl, sym, ap, ◌∙◌, arith, lit≤}
use Rattle.std.specs.List.{list_all}
use Rattle.std.specs.Char.{digit_value}
use Rattle.std.specs.Result.{OkIff}
use Rattle.std.specs.Str.Parse.{AllDigits, IsNumeral, ParsesUnsigned, digits_value}
use Rattle.std.proofs.lemmas.Str.Parse.{without_leading_plus_none}
use Rattle.std.proofs.lemmas.Int.Digits.{digits_value-lt}
use Rattle.std.proofs.lemmas.Bool.Decides.{nat_tests}
use Rattle.std.proofs.Math.Nat.{pow-le-pow_right}
use Rattle.std.specs.Result.{result_ok}
use Rattle.texts.specs.Hex.{is_digit, number_of_digits}

pub digit_below : (c : ℕ) → is_digit c ≡ true → digit_value c < 16
digit_below c t = grind (arith, nat_tests)

digit_no_plus : (c : ℕ) → is_digit c ≡ true → c ≢ 43
digit_no_plus c t = grind (arith, nat_tests)

pub both : (a b : Bool) → (a && b) ≡ true → (a ≡ true) × (b ≡ true)
both true true t = (refl, refl)
both true false t = cc
both false b t = cc

all_digits : (text : List ℕ) → list_all is_digit text ≡ true → AllDigits 16 text
all_digits [] t = tt
all_digits (c ∷ cs) t =
    (digit_below c (both (is_digit c) _ t).0, all_digits cs (both (is_digit c) _ t).1)

no_plus : (text : List ℕ) → list_all is_digit text ≡ true → get_or text 0 0 ≢ 43
no_plus [] t = λ e. cc
no_plus (c ∷ cs) t = digit_no_plus c (both (is_digit c) (list_all is_digit cs) t).0

parsed : {E : Type 0} (text : List ℕ) (P : Type 0) (v : ℕ) (r : Result ℕ E) → OkIff r P v → P
    → r ≡ Ok v
parsed text P v (Ok x) h p = ap Ok h.1
parsed text P v (Err e) h p = absurd (h p)

-- so many digits are read as their value
pub digits_parsed : {E : Type 0} (k most : ℕ) (text : List ℕ) (r : Result ℕ E)
    → ParsesUnsigned k 16 text r → list_all is_digit text ≡ true → 0 < length text
    → length text ≤ most → 16 ^ most ≤ 2 ^ k → r ≡ Ok (digits_value 16 text)
digits_parsed k most text r h t some few fits =
    let plain = without_leading_plus_none text (no_plus text t) in
    let digits : AllDigits 16 text = all_digits text t in
    let within : digits_value 16 text < 16 ^ length text = digits_value-lt 16 text digits in
    let most_of : 16 ^ length text ≤ 16 ^ most = pow-le-pow_right {n = 16} (lit≤ tt) few in
    let small : digits_value 16 text < 2 ^ k = omega arith in
    parsed text (IsNumeral 16 text × (digits_value 16 text < 2 ^ k)) (digits_value 16 text) r
    (rw plain at h) ((some, digits), small)

-- and that value is what they spell
pub digits_spell : (least most : ℕ) (text : List ℕ) → list_all is_digit text ≡ true
    → least ≤ length text → length text ≤ most
    → number_of_digits least most text ≡ Some (digits_value 16 text)
digits_spell least most text t some few = grind (arith, nat_tests)

pub digits_read : {E : Type 0} (k least most : ℕ) (text : List ℕ) (r : Result ℕ E)
    → ParsesUnsigned k 16 text r → list_all is_digit text ≡ true → 0 < least → least ≤ length text
    → length text ≤ most → 16 ^ most ≤ 2 ^ k → result_ok r ≡ number_of_digits least most text
digits_read k least most text r h t positive some few fits =
    ap result_ok (digits_parsed k most text r h t (omega arith) few fits)
    ∙ sym (digits_spell least most text t some few)
