use Rattle.std.proofs.Common.{ap, ◌∙◌, List, ℕ, Bor, map, lit<}
use Rattle.std.proofs.lemmas.Iterator.Consumers.{YieldsList-at, YieldsList-end}
use Rattle.std.proofs.lemmas.Iterator.Splits.{YieldsList-from_str_split}
use Rattle.bundles.proofs.field.parts_of.Goals as goal

pub returns : goal.returns
returns c =
    let all = YieldsList-at c.into_iter-part-iterator.ensures.into_iter_gives
    (YieldsList-from_str_split 44 c.args.text.now (lit< tt) c.split-part-items.ensures.text
    c.split-part-items.ensures.has_more c.split-part-items.ensures.pattern) in
    let t = YieldsList-end all c.loop-part.yielded _ c.loop-part.yielded_by _ _ c.in-None.is
    c.next.ensures.steps in
    ap (map (λ (w : Bor (List ℕ)). w.now)) c.loop-part.invariant ∙ t.0
