use Rattle.std.proofs.Common.{◌≡◌, IsTrue, true, false, inl, inr, ap, sym, ◌∙◌}
use Rattle.smbus.specs.Answered.{Answered}
use Rattle.targets.proofs.effect.takes_effect.Goals as goal

pub returns-then-answer : goal.returns-then-answer
returns-then-answer c address code value w =
    let goes = c.value_goes_out.ensures.marks address code value w in
    let took : IsTrue c.args.answer.now.took =
    ap (λ (a : Answered). a.took) (sym c.answer.view_is) ∙ c.if-answer.true in (
      λ t. inr (goes.0 t, took),
      λ e. elim e [
        | inl d ↦
            let bad : true ≡ false = sym (c.is_done.ensures.1 d) ∙ c.if-is_done.false in
            cc
        | inr both ↦ goes.1 both.0
      ],
    )
