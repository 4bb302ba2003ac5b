use Rattle.std.proofs.Common.{sym, ◌∙◌, drop}
use Rattle.bundles.proofs.NoFiles.{without_files}
use Rattle.bundles.proofs.composing.push_sections.Goals as goal

pub returns-in-None : goal.returns-in-None
returns-in-None c =
    let l = c.loop-header in
    sym (without_files (λ f. f.items) l.bundle.items (drop l.header-index c.args.headers.now)
    l.rest.now c.in-None.ensures.cases)
    ∙ l.invariant
