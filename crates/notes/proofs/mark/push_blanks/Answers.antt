use Rattle.std.proofs.Common.{◌≡◌, ℕ, ◌+◌, ◌<◌, List, ◌∷◌, length, get_or, drop, map, sym, ap}
use Rattle.std.proofs.Common.{◌∙◌, append_assoc, arith}
use Rattle.std.proofs.lemmas.Grind.{common_steps}
use Rattle.std.proofs.lemmas.Iterator.{YieldsList-from_chars}
use Rattle.std.proofs.lemmas.List.{at_drop_more, at_drop_all, length_push}
use Rattle.std.proofs.lemmas.Iterator.Consumers.{YieldsList-turn, YieldsList-end}
use Rattle.std.specs.Str.{chars}
use Rattle.notes.specs.Marks.{blank}
use Rattle.notes.proofs.mark.push_blanks.Goals as goal

-- the next character, and those behind it
next_blank : (cs : List ℕ) (n c : ℕ) → (n < length cs) × (c ≡ get_or cs n c)
    → map blank (drop n cs) ≡ blank c ∷ map blank (drop (n + 1) cs)
next_blank cs n c h =
    at_drop_more (map blank) cs n c h.0
    ∙ ap (λ x. blank x ∷ map blank (drop (n + 1) cs)) (sym h.1)

pub loop-c-preserved : goal.loop-c-preserved
loop-c-preserved c =
    let t = YieldsList-turn (YieldsList-from_chars c.args.before.now c.utf8.before cc)
    c.loop-c.yielded _ c.loop-c.yielded_by _ _ c.in-Some.c c.in-Some.is c.next.ensures.steps in
    let e = next_blank _ _ _ t in
    let n = length_push c.loop-c.yielded c.in-Some.c in
    grind (arith, common_steps, append_assoc)

pub returns : goal.returns
returns c =
    let t = YieldsList-end (YieldsList-from_chars c.args.before.now c.utf8.before cc)
    c.loop-c.yielded _ c.loop-c.yielded_by _ _ c.in-None.is c.next.ensures.steps in
    let e = at_drop_all (map blank) (chars c.args.before.now) (length c.loop-c.yielded)
    (omega (arith, t.1)) in
    grind (arith, common_steps)
