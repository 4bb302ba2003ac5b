use Rattle.std.proofs.Common.{◌≡◌, ◌≤◌, ℕ, codes, subst, sym}
use Rattle.std.proofs.lemmas.List.Elements.{All-nil}
use Rattle.std.proofs.lemmas.Slice.Eq.{bytes_eq-Decides}
use Rattle.smbus.specs.Answered.{silence}
use Rattle.bundles.specs.Answers.{IsGoodAnswer, answer_said}
use Rattle.bundles.specs.Bundles.{Line}
use Rattle.bundles.proofs.CheckedLines.{IsHeld, is_answer, is_held}
use Rattle.bundles.proofs.Silence.{dash_is_silence}
use Rattle.bundles.proofs.answer_list.check_line.Goals as goal

is_said : (number : ℕ) → IsGoodAnswer (number, codes "-")
is_said number = is_answer (number, codes "-") silence (dash_is_silence number)

none_held : (number : ℕ) → IsHeld (answer_said (number, codes "-"))
none_held number =
    is_held (number, codes "-") silence (dash_is_silence number) (All-nil (λ hold. hold ≤ 6999))

pub returns-then-eq-clause-said : goal.returns-then-eq-clause-said
returns-then-eq-clause-said c =
    let dash : c.args.line.now ≡ codes "-" =
    (bytes_eq-Decides c.args.line.now (codes "-")).0 (sym c.if-eq.ensures) in
    subst (λ (line : Line). IsGoodAnswer (c.args.number, line)) (sym dash) (is_said c.args.number)

pub returns-then-eq-clause-held : goal.returns-then-eq-clause-held
returns-then-eq-clause-held c =
    let dash : c.args.line.now ≡ codes "-" =
    (bytes_eq-Decides c.args.line.now (codes "-")).0 (sym c.if-eq.ensures) in
    subst (λ (line : Line). IsHeld (answer_said (c.args.number, line))) (sym dash)
    (none_held c.args.number)
