use Rattle.std.proofs.Common.{◌≡◌, ◌<◌, ◌≤◌, ◌^◌, ℕ, List, Option, Some, IfSome, ◌∙◌, rules, arith}
use Rattle.std.specs.Fmt.{decimal}
use Rattle.texts.specs.Decimal.{decimal_within}
use Rattle.texts.proofs.DecimalTexts.{decimal_within_spelled, decimal_within-decimal}
use Rattle.texts.proofs.decimal.decimal_within.Goals as goal

spelled : (most : ℕ) (text : List ℕ) (r : Option ℕ) → most < 2 ^ 64 → r ≡ decimal_within most text
    → IfSome r (λ n. (n ≤ most) × (text ≡ decimal n))
spelled most text r small e = rw e (decimal_within_spelled most text small)

only : (most : ℕ) (text : List ℕ) (r : Option ℕ) → most < 2 ^ 64 → r ≡ decimal_within most text
    → (n : ℕ) → n ≤ most → text ≡ decimal n → r ≡ Some n
only most text r small e n few p = e ∙ rw p (decimal_within-decimal most n few small)

pub returns : goal.returns
returns c =
    let v : c.filter.result ≡ decimal_within c.args.most c.args.text.now = search rules in
    record { value = v; spelled = spelled _ _ _ (omega arith) v; only = only _ _ _ (omega arith) v }
