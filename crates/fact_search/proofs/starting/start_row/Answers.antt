use Rattle.std.proofs.Common.{List, ℕ, subst, sym}
use Rattle.board.specs.Boards.{Target}
use Rattle.facts.specs.domain.Sets.{pages_in, protects_in}
use Rattle.fact_search.specs.Starting.{HoldEachStart}
use Rattle.fact_search.proofs.Rows.Starts.{start_is}
use Rattle.fact_search.proofs.starting.start_row.Goals as goal

pub returns : goal.returns
returns c =
    let P : List Target → Type 0 = λ ts. HoldEachStart pages_in (λ t. t.start_pages)
    c.in_ok-pages.pages.items ts in
    let Q : List Target → Type 0 = λ ts. HoldEachStart protects_in (λ t. t.start_protects)
    c.in_ok-protects.protects.items ts in
    let R : List ℕ → Type 0 = λ sets. HoldEachStart pages_in (λ t. t.start_pages) sets
    c.args.board.now.targets in
    let S : List ℕ → Type 0 = λ sets. HoldEachStart protects_in (λ t. t.start_protects) sets
    c.args.board.now.targets in
    start_is c.args.board.now c.at_start.result c.targets.ensures.board (record {
      pages = subst R (sym c.at_start.ensures.pages)
          (subst P c.targets.ensures.targets c.in_ok-pages.ensures);
      protects = subst S (sym c.at_start.ensures.protects)
          (subst Q c.targets-2.ensures.targets c.in_ok-protects.ensures);
      rest = c.at_start.ensures.rest;
    })
