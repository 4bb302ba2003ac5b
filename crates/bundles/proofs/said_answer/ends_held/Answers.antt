use Rattle.std.proofs.Common.{ap, sym, ◌∙◌}
use Rattle.bundles.proofs.WrittenSlots.{held_by_last, is_held_or_none}
use Rattle.bundles.proofs.said_answer.ends_held.Goals as goal

pub returns-in-Some : goal.returns-in-Some
returns-in-Some c =
    sym (held_by_last c.args.holds.now ∙ ap is_held_or_none (sym c.in-Some.ensures.value))
