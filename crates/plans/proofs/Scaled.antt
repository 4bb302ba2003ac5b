-- Digits behind a point, and the bounds of what is computed of voltages.
use Rattle.std.proofs.Common.{◌≡◌, ℕ, ◌+◌, ◌-◌, ◌*◌, ◌^◌, ◌<◌, ◌≤◌, List, length, true, Result, Ok}
use Rattle.std.proofs.Common.{Option, Some, unwrap_or, refl, sym, ap, ◌∙◌, arith, rules, lit<, lit≤}
use Rattle.std.specs.List.{list_all}
use Rattle.std.specs.Char.{is_ascii_digit}
use Rattle.std.specs.Result.{result_ok}
use Rattle.std.specs.Str.Parse.{ParsesUnsigned, digits_value}
use Rattle.std.proofs.lemmas.Str.Parse.{IsNumeralModel, numerals_by_value, parse_gives}
use Rattle.std.proofs.lemmas.Str.Parse.{digits_value_short}
use Rattle.std.proofs.lemmas.Nat.{pow-add}
use Rattle.std.proofs.Math.Nat.{pow-le-pow_right, mul-lt-mul_of_pos_right}

abbrev HasDigits : List ℕ → Type 0
HasDigits text = list_all is_ascii_digit text ≡ true

own : IsNumeralModel HasDigits (digits_value 10)
own = numerals_by_value HasDigits (search rules)

-- a few digits are read
pub parsed : {E : Type 0} (text : List ℕ) (r : Result ℕ E) → ParsesUnsigned 64 10 text r
    → list_all is_ascii_digit text ≡ true → 0 < length text → length text ≤ 6
    → r ≡ Ok (digits_value 10 text)
parsed text r h t some few =
    let short : digits_value 10 text < 10 ^ 6 = digits_value_short own text 6 t few in
    let fits : 10 ^ 6 ≤ 2 ^ 64 = lit≤ tt in
    let small : digits_value 10 text < 2 ^ 64 = omega arith in
    parse_gives own 64 text r h t some small

-- and less than one
less_than_one : (text : List ℕ) → list_all is_ascii_digit text ≡ true → length text ≤ 6
    → digits_value 10 text * 10 ^ (6 - length text) < 1000000
less_than_one text t few =
    let short : digits_value 10 text < 10 ^ length text =
    digits_value_short own text (length text) t (omega arith) in
    let positive : 0 < 10 ^ (6 - length text) =
    pow-le-pow_right {n = 10} (lit< tt) {i = 0} (omega arith) in
    let scaled : digits_value 10 text * 10 ^ (6 - length text)
    < 10 ^ length text * 10 ^ (6 - length text) = mul-lt-mul_of_pos_right short positive in
    let all : length text + (6 - length text) ≡ 6 = omega arith in
    let whole : 10 ^ length text * 10 ^ (6 - length text) ≡ 10 ^ 6 =
    sym (pow-add 10 (length text) (6 - length text)) ∙ ap (λ n. 10 ^ n) all in
    let million : 10 ^ 6 ≡ 1000000 = refl in
    omega arith

-- what was read is that number
number_read : {E : Type 0} (r : Result ℕ E) (o : Option ℕ) (v n : ℕ) → r ≡ Ok v
    → o ≡ result_ok r → o ≡ Some n → n ≡ v
number_read r o v n read ok some =
    ap (λ x. unwrap_or x 0) (sym some ∙ ok ∙ ap result_ok read)

pub read_below : {E : Type 0} (text : List ℕ) (r : Result ℕ E) (o : Option ℕ) (n : ℕ)
    → ParsesUnsigned 64 10 text r → list_all is_ascii_digit text ≡ true → 0 < length text
    → length text ≤ 6 → o ≡ result_ok r → o ≡ Some n → n * 10 ^ (6 - length text) < 1000000
read_below text r o n h t nonempty few ok some =
    let read : n ≡ digits_value 10 text =
    number_read r o (digits_value 10 text) n (parsed text r h t nonempty few) ok some in
    rw read (less_than_one text t few)
