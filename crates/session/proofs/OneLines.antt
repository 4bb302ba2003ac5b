-- Comments that are one line: words and numbers have no line feed and no carriage return.
use Rattle.std.proofs.Common.{◌≡◌, ◌<◌, ℕ, ◌^◌, ◌++◌, ◌&&◌, ◌==◌, Bool, true, false, not, List}
use Rattle.std.proofs.Common.{codes}
use Rattle.std.proofs.Common.{refl, ◌∙◌, rules, arith}
use Rattle.std.specs.Char.{is_ascii_digit}
use Rattle.std.specs.Fmt.{decimal}
use Rattle.std.specs.List.{list_all}
use Rattle.std.specs.Str.Parse.{digits_value}
use Rattle.std.proofs.lemmas.Bool.Decides.{nat_tests}
use Rattle.std.proofs.lemmas.Fmt.{digits_decimal}
use Rattle.std.proofs.lemmas.List.Elements.{All-weaker}
use Rattle.std.proofs.lemmas.List.Folds.{list_all-append}
use Rattle.std.proofs.lemmas.List.Sums.{AllPass-from_list_all, list_all-from_AllPass}
use Rattle.std.proofs.lemmas.Str.Parse.{IsNumeralModel, numerals_by_value}
use Rattle.bundles.specs.AnswerTexts.{is_one_line}
use Rattle.facts.specs.declared.duties.rule.Rule.{Rule}
use Rattle.facts.specs.declared.duties.rule.Rule.TheVariants.{K1, K2, K3, K4, K5, K6, K7, K8, K9}
use Rattle.facts.specs.duties.RuleNames.{rule_name}
use Rattle.run_monitor.specs.declared.breach.Breach.{Breach}
use Rattle.session.specs.PlayReplies.{still_running, breach_text}

abbrev HasDigits : List ℕ → Type 0
HasDigits text = list_all is_ascii_digit text ≡ true

own : IsNumeralModel HasDigits (digits_value 10)
own = numerals_by_value HasDigits (search rules)

-- a byte within a line
abbrev stays : ℕ → Bool
stays b = not (b == 10) && not (b == 13)

digit_stays : (b : ℕ) → is_ascii_digit b ≡ true → stays b ≡ true
digit_stays b t = grind (arith, nat_tests)

number_stays : (n : ℕ) → n < 2 ^ 64 → list_all stays (decimal n) ≡ true
number_stays n small =
    list_all-from_AllPass stays (decimal n)
    (All-weaker (λ b. is_ascii_digit b ≡ true) (λ b. stays b ≡ true) digit_stays (decimal n)
    (AllPass-from_list_all is_ascii_digit (decimal n) (digits_decimal own n small)))

both : (x y : Bool) → x ≡ true → y ≡ true → (x && y) ≡ true
both true y a b = b
both false y a b = cc a

joined : (x y : List ℕ) → list_all stays x ≡ true → list_all stays y ≡ true
    → list_all stays (x ++ y) ≡ true
joined x y a b =
    list_all-append stays x y ∙ both (list_all stays x) (list_all stays y) a b

pub running_is_one_line : (count : ℕ) → count < 2 ^ 64 → is_one_line (still_running count) ≡ true
running_is_one_line count small =
    joined (codes "still running after ") (decimal count ++ codes " steps") refl
    (joined (decimal count) (codes " steps") (number_stays count small) refl)

name_stays : (rule : Rule) → list_all stays (rule_name rule) ≡ true
name_stays K1 = refl
name_stays K2 = refl
name_stays K3 = refl
name_stays K4 = refl
name_stays K5 = refl
name_stays K6 = refl
name_stays K7 = refl
name_stays K8 = refl
name_stays K9 = refl

pub breach_is_one_line : (x : Breach) → x.place < 2 ^ 64 → is_one_line (breach_text x) ≡ true
breach_is_one_line x small =
    joined (codes "place ") (decimal x.place ++ (codes " rule " ++ rule_name x.rule)) refl
    (joined (decimal x.place) (codes " rule " ++ rule_name x.rule) (number_stays x.place small)
    (joined (codes " rule ") (rule_name x.rule) refl (name_stays x.rule)))
