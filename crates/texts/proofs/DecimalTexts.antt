-- A decimal text is the printed form of its number.
use Rattle.std.proofs.Common.{◌≡◌, ℕ, ◌<◌, ◌≤◌, ◌^◌, List, length, get_or, Bool, true, false, ◌&&◌}
use Rattle.std.proofs.Common.{◌==◌, not, if◌then◌else◌, suc, nat_lt, nat_le, Result, Ok, Err, Some}
use Rattle.std.proofs.Common.{None, IfSome, refl, sym, ap, ◌∙◌, arith, rules, lit<, inl, inr, zero}
use Rattle.std.proofs.lemmas.Bool.{cases_Bool}
use Rattle.std.specs.List.{list_all}
use Rattle.std.specs.Char.{is_ascii_digit}
use Rattle.std.specs.Fmt.{decimal}
use Rattle.std.specs.Result.{OkIff, result_ok}
use Rattle.std.specs.Str.Parse.{ParsesUnsigned, digits_value}
use Rattle.std.proofs.lemmas.Str.Parse.{IsNumeralModel, numerals_by_value, parse_digits}
use Rattle.std.proofs.lemmas.Fmt.{decimal-digits_value, digits_decimal, digits_value-decimal}
use Rattle.std.proofs.lemmas.Fmt.{decimal_nonempty, first_decimal, decimal_digit}
use Rattle.std.proofs.lemmas.Bool.Decides.{nat_tests}
use Rattle.texts.specs.Decimal.{is_decimal, decimal_within}

abbrev HasDigits : List ℕ → Type 0
HasDigits text = list_all is_ascii_digit text ≡ true

own : IsNumeralModel HasDigits (digits_value 10)
own = numerals_by_value HasDigits (search rules)

record Parts (text : List ℕ) : Type 0 where
  digits : HasDigits text
  nonempty : 0 < length text
  no_zero : get_or text 0 0 ≡ 48 → length text ≡ 1

-- what the tests of is_decimal say
parts_of : (n z : ℕ) (d : Bool) → ((nat_lt 0 n && d) && not (nat_lt 1 n && (z == 48))) ≡ true
    → (d ≡ true) × (0 < n) × (z ≡ 48 → n ≡ 1)
parts_of n z true t = (refl, grind (arith, nat_tests), λ e. grind (arith, nat_tests))
parts_of n z false t = grind (arith, nat_tests)

tests_of : (n z : ℕ) (d : Bool) → d ≡ true → 0 < n → (z ≡ 48 → n ≡ 1)
    → ((nat_lt 0 n && d) && not (nat_lt 1 n && (z == 48))) ≡ true
tests_of n z d t some one = grind (arith, nat_tests)

parts : (text : List ℕ) → is_decimal text ≡ true → Parts text
parts text t =
    let p : HasDigits text × (0 < length text) × (get_or text 0 0 ≡ 48 → length text ≡ 1) =
    parts_of (length text) (get_or text 0 0) (list_all is_ascii_digit text) t in
    record { digits = p.0; nonempty = p.1; no_zero = p.2 }

spelled_of : (text : List ℕ) → is_decimal text ≡ true → digits_value 10 text < 2 ^ 64
    → text ≡ decimal (digits_value 10 text)
spelled_of text t small =
    let p = parts text t in
    sym (decimal-digits_value own text p.digits p.nonempty p.no_zero small)

one_zero : (n : ℕ) → n < 2 ^ 64 → get_or (decimal n) 0 0 ≡ 48 → length (decimal n) ≡ 1
one_zero zero small e = ap length (decimal_digit 0 (lit< tt))
one_zero (suc n) small e =
    let more : 48 < get_or (decimal (suc n)) 0 0 = first_decimal (suc n) (omega arith) small in
    absurd (omega arith)

is_decimal_printed : (n : ℕ) → n < 2 ^ 64 → is_decimal (decimal n) ≡ true
is_decimal_printed n small =
    tests_of (length (decimal n)) (get_or (decimal n) 0 0) _ (digits_decimal own n small)
    (decimal_nonempty n small) (one_zero n small)

picked : (b c : Bool) (v n : ℕ) → b ≡ true → c ≡ true → v ≡ n
    → (if b && c then Some v else None) ≡ Some n
picked b c v n t s e = grind (arith, nat_tests)

-- reading a printed number gives it back
pub decimal_within-decimal : (most n : ℕ) → n ≤ most → most < 2 ^ 64
    → decimal_within most (decimal n) ≡ Some n
decimal_within-decimal most n few small =
    let below : n < 2 ^ 64 = omega arith in
    let v : digits_value 10 (decimal n) ≡ n = digits_value-decimal own n below in
    picked _ _ _ n (is_decimal_printed n below) (rw v (grind (arith, nat_tests))) v

spelled_case : (b : Bool) (v most : ℕ) (text : List ℕ) → (b ≡ true → v ≤ most → text ≡ decimal v)
    → IfSome (if b && nat_le v most then Some v else None) (λ n. (n ≤ most) × (text ≡ decimal n))
spelled_case false v most text h = tt
spelled_case true v most text h = elim (cases_Bool (nat_le v most)) [
  | inl t ↦ rw t (grind (arith, nat_tests), h refl (grind (arith, nat_tests)))
  | inr f ↦ rw f tt
]

-- what is read is printed so
pub decimal_within_spelled : (most : ℕ) (text : List ℕ) → most < 2 ^ 64
    → IfSome (decimal_within most text) (λ n. (n ≤ most) × (text ≡ decimal n))
decimal_within_spelled most text small =
    spelled_case (is_decimal text) _ most text (λ t few. spelled_of text t (omega arith))

read_case : {E : Type 0} (n v most : ℕ) (r : Result ℕ E) → OkIff r ((0 < n) × (v < suc most)) v
    → 0 < n → result_ok r ≡ (if nat_le v most then Some v else None)
read_case n v most (Ok x) h some = grind (arith, nat_tests)
read_case n v most (Err e) h some = grind (arith, nat_tests, h)

under_test : (b c : Bool) (v : ℕ) → b ≡ true
    → (if b && c then Some v else None) ≡ (if c then Some v else None)
under_test true c v t = refl
under_test false c v t = cc

-- what parsing gives
pub decimal_parsed : {E : Type 0} (text : List ℕ) (r : Result ℕ E) → ParsesUnsigned 64 10 text r
    → is_decimal text ≡ true → result_ok r ≡ decimal_within 18446744073709551615 text
decimal_parsed text r h t =
    let p = parts text t in
    read_case (length text) (digits_value 10 text) 18446744073709551615 r
    (parse_digits own 64 text r h p.digits) p.nonempty ∙ sym (under_test (is_decimal text) _ _ t)
