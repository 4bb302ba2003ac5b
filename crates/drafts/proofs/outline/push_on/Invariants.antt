use Rattle.std.proofs.Common.{◌≡◌, ◌++◌, map, drop}
use Rattle.drafts.specs.declared.part.Part.TheVariants as part
use Rattle.drafts.proofs.outline.push_on.Given as goal

-- the parts so far, and those that are left, are all
abbrev pub invariant-loop-rail : goal.invariant-loop-rail
invariant-loop-rail l =
    l.parts.items ++ map part.TurnOn (drop l.rail-index l.order)
    ≡ l.fn.parts.items ++ map part.TurnOn l.order
