use Rattle.std.proofs.Common.{◌≡◌, ◌++◌, map, drop}
use Rattle.drafts.specs.declared.part.Part.TheVariants as part
use Rattle.drafts.proofs.outline.push_opens.Given as goal

-- the parts so far, and those that are left, are all
abbrev pub invariant-loop-target : goal.invariant-loop-target
invariant-loop-target l =
    l.parts.items ++ map part.Open (drop l.target-index l.targets)
    ≡ l.fn.parts.items ++ map part.Open l.targets
