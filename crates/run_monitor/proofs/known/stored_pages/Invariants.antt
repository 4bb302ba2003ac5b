use Rattle.std.proofs.Common.{◌≡◌, ◌++◌, drop, map}
use Rattle.facts.specs.domain.Sets.{only, pages_in}
use Rattle.run_monitor.proofs.known.stored_pages.Given as goal

abbrev pub invariant-loop-page : goal.invariant-loop-page
invariant-loop-page l =
    map pages_in l.sets.items ++ map only (drop l.page-index l.pages) ≡ map only l.pages
