use Rattle.std.proofs.Common.{◌≡◌, ◌<◌, ◌^◌, ◌-◌, ◌*◌, length, true, Ok, Some, None, sym, ap, ◌∙◌}
use Rattle.std.proofs.Common.{arith, rules}
use Rattle.std.specs.List.{list_all}
use Rattle.std.specs.Char.{is_ascii_digit}
use Rattle.std.specs.Result.{result_ok}
use Rattle.std.specs.Str.Parse.{digits_value}
use Rattle.plans.proofs.Scaled.{parsed, read_below}
use Rattle.plans.proofs.volts.millionths_of.Goals as goal

pub returns-in_err-number-clause-value : goal.returns-in_err-number-clause-value
returns-in_err-number-clause-value c =
    let digits : list_all is_ascii_digit c.args.digits.now ≡ true = search rules in
    let nonempty : 0 < length c.args.digits.now = grind (arith, c.is_empty.ensures) in
    let read : c.parse.result ≡ Ok (digits_value 10 c.args.digits.now) =
    parsed c.args.digits.now _ c.parse.ensures.value.0 digits nonempty (omega arith) in
    let none : Some (digits_value 10 c.args.digits.now) ≡ None =
    sym (c.ok.ensures.value ∙ ap result_ok read) ∙ c.in_err-number.was in
    cc

product_below : (c : goal.In_ok-number)
    → c.in_ok-number.number * 10 ^ (6 - length c.args.digits.now) < 1000000
product_below c =
    let digits : list_all is_ascii_digit c.args.digits.now ≡ true = search rules in
    let nonempty : 0 < length c.args.digits.now = grind (arith, c.is_empty.ensures) in
    read_below c.args.digits.now _ _ _ c.parse.ensures.value.0 digits nonempty (omega arith)
    c.ok.ensures.value c.in_ok-number.was

pub overflow_mul-result : goal.overflow_mul-result
overflow_mul-result c = let below = product_below c in rw c.pow-scale.ensures (omega arith)

pub returns-clause-few : goal.returns-clause-few
returns-clause-few c = rw c.pow-scale.ensures (product_below c)
