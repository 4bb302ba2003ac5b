-- Hexadecimal digits of either case are numerals of `from_str_radix`.
use Rattle.std.proofs.Common.{◌≡◌, ◌≢◌, ℕ, ◌<◌, ◌≤◌, ◌^◌, List, [], ◌∷◌, length, get_or, true}
use Rattle.std.proofs.Common.{Result, Ok, Err, Some, sym, ap, ◌∙◌, arith, lit≤}
use Rattle.std.specs.List.{list_all}
use Rattle.std.specs.Char.{digit_value}
use Rattle.std.specs.Result.{OkIff, result_ok}
use Rattle.std.specs.Str.Parse.{AllDigits, IsNumeral, ParsesUnsigned, digits_value}
use Rattle.std.proofs.lemmas.Str.Parse.{without_leading_plus_none}
use Rattle.std.proofs.lemmas.Int.Digits.{digits_value-lt}
use Rattle.std.proofs.lemmas.Bool.Decides.{nat_tests}
use Rattle.std.proofs.lemmas.Bool.{and_parts}
use Rattle.std.proofs.Math.Nat.{pow-le-pow_right}
use Rattle.seq_program.specs.Operands.{is_digit, hexadecimal_of}

digit_below : (c : ℕ) → is_digit c ≡ true → digit_value c < 16
digit_below c t = grind (arith, nat_tests)

digit_no_plus : (c : ℕ) → is_digit c ≡ true → c ≢ 43
digit_no_plus c t = grind (arith, nat_tests)

all_digits : (text : List ℕ) → list_all is_digit text ≡ true → AllDigits 16 text
all_digits [] t = tt
all_digits (c ∷ cs) t =
    let p = and_parts (is_digit c) (list_all is_digit cs) t in
    (digit_below c p.0, all_digits cs p.1)

no_plus : (text : List ℕ) → list_all is_digit text ≡ true → get_or text 0 0 ≢ 43
no_plus [] t = λ e. cc
no_plus (c ∷ cs) t = digit_no_plus c (and_parts (is_digit c) (list_all is_digit cs) t).0

parsed : {E : Type 0} (text : List ℕ) (P : Type 0) (v : ℕ) (r : Result ℕ E) → OkIff r P v → P
    → r ≡ Ok v
parsed text P v (Ok x) h p = ap Ok h.1
parsed text P v (Err e) h p = absurd (h p)

pub digits_read : {E : Type 0} (text : List ℕ) (r : Result ℕ E) → ParsesUnsigned 32 16 text r
    → list_all is_digit text ≡ true → 0 < length text → length text ≤ 4
    → result_ok r ≡ hexadecimal_of text
digits_read text r h t some few =
    let plain = without_leading_plus_none text (no_plus text t) in
    let digits : AllDigits 16 text = all_digits text t in
    let within : digits_value 16 text < 16 ^ length text = digits_value-lt 16 text digits in
    let most_of : 16 ^ length text ≤ 16 ^ 4 = pow-le-pow_right {n = 16} (lit≤ tt) few in
    let fits : 16 ^ 4 ≤ 2 ^ 32 = lit≤ tt in
    let small : digits_value 16 text < 2 ^ 32 = omega arith in
    let read : r ≡ Ok (digits_value 16 text) =
    parsed text (IsNumeral 16 text × (digits_value 16 text < 2 ^ 32)) (digits_value 16 text) r
    (rw plain at h) ((some, digits), small) in
    let spelled : hexadecimal_of text ≡ Some (digits_value 16 text) = grind (arith, nat_tests) in
    ap result_ok read ∙ sym spelled
