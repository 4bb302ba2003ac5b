use Rattle.std.proofs.Common.{◌≡◌, ◌++◌, map, drop}
use Rattle.bundles.specs.Composed.{sections_text}
use Rattle.bundles.proofs.composing.push_sections.Given as goal

abbrev pub invariant-loop-header : goal.invariant-loop-header
invariant-loop-header l =
    l.bundle.items ++ sections_text (drop l.header-index l.headers) (map (λ f. f.items) l.rest)
    ≡ l.fn.bundle.items ++ sections_text l.fn.headers (map (λ f. f.items) l.fn.files)
