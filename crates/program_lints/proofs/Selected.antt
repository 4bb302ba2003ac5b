-- What a set of a page and of all pages selects.
use Rattle.std.proofs.Common.{◌≡◌, ℕ, subst}
use Rattle.std.specs.Prelude.{IsTrue}
use Rattle.simulator.specs.Reports.{selects}
use Rattle.facts.specs.domain.Sets.{Set, empty, gains}

pub both_select : (s : Set) (page stored : ℕ) → s ≡ gains (gains empty page) 0xFF
    → IsTrue (s stored) → IsTrue (selects stored page)
both_select s page stored is has = subst (λ (x : Set). IsTrue (x stored)) is has
