use Rattle.targets.proofs.effect.is_taken.Goals as goal

pub returns-then-is_permitted : goal.returns-then-is_permitted
returns-then-is_permitted c address value w =
    let t = c.takes_effect.ensures address c.args.code value w in
    (λ e. (c.is_permitted.ensures.0 c.if-is_permitted.true, t.0 e), λ both. t.1 both.1)
