use Rattle.std.proofs.Common.{◌≡◌, ◌++◌, map, ℕ, Bor}
use Rattle.drafts.specs.declared.part.Part.TheVariants as part
use Rattle.drafts.proofs.outline.push_off.Given as goal

-- the rails so far are turned off
abbrev pub invariant-loop-rail : goal.invariant-loop-rail
invariant-loop-rail l =
    l.parts.items ≡ l.fn.parts.items ++ map part.TurnOff (map (λ (w : Bor ℕ). w.now) l.yielded)
