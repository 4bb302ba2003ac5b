use Rattle.std.proofs.Common.{ap, sym, ◌∙◌}
use Rattle.bundles.proofs.LastBytes.{ended_by_last, is_feed_or_none}
use Rattle.bundles.proofs.composing.is_ended.Goals as goal

pub returns-in-Some : goal.returns-in-Some
returns-in-Some c =
    sym (ended_by_last c.args.file.now ∙ ap is_feed_or_none (sym c.in-Some.ensures.value))
