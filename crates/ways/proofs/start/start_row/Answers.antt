use Rattle.std.proofs.Common.{List, ℕ, subst, sym}
use Rattle.board.specs.Boards.{Target}
use Rattle.facts.specs.domain.Sets.{is_page, is_protect, pages_in, protects_in}
use Rattle.ways.specs.Starts.{AreStartPages, AreStartProtects}
use Rattle.ways.proofs.Choosing.{chosen_at}
use Rattle.ways.proofs.start.start_row.Goals as goal

pub returns : goal.returns
returns c =
    let targets : List Target = c.args.board.now.targets in
    let P : List ℕ → Type 0 = λ sets. AreStartPages targets sets in
    let Q : List ℕ → Type 0 = λ sets. AreStartProtects targets sets in
    let pages = subst P (sym c.at_start.ensures.pages)
    (subst (λ ts. AreStartPages ts c.in_ok-pages.pages.items) c.targets.ensures.targets
    c.in_ok-pages.ensures) in
    let protects = subst Q (sym c.at_start.ensures.protects)
    (subst (λ ts. AreStartProtects ts c.in_ok-protects.protects.items)
    c.targets-2.ensures.targets c.in_ok-protects.ensures) in
    let row = c.at_start.result in
    record {
      pages = λ i t there. chosen_at is_page pages_in (λ t. t.start_pages) targets
          row.pages.items i t pages there;
      protects = λ i t there. chosen_at is_protect protects_in (λ t. t.start_protects) targets
          row.protects.items i t protects there;
      rest = c.at_start.ensures.rest;
    }
