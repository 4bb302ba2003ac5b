-- Rails that are touched, by the word of a set of pages. No public contract cites this: `Duties`
-- says what is asked.
use Rattle.std.specs.Prelude.{ℕ, ℤ, Bool, ◌==◌, ◌&&◌, IsTrue, Option, Some, None}
use Rattle.std.specs.Prelude.{false, All, slice_get}
use Rattle.pmbus_table.specs.Voltage.{IsWithin}
use Rattle.board.specs.Boards.{Rail, Board}
use Rattle.facts.specs.domain.Sets.{pages_in, rails_in}
use Rattle.facts.specs.duties.Duties.{may_select}

abbrev pub touches_in : ℕ → ℕ → Rail → Bool
touches_in pages i r = (r.target == i) && may_select (pages_in pages) r.page

abbrev pub IsWithinLimit : ℕ → ℕ → ℤ → ℕ → Rail → Type 0
IsWithinLimit pages i exponent voltage r = IsTrue (touches_in pages i r)
    → IsWithin voltage exponent r.limit_uv

abbrev pub HasGoodNeeds : ℕ → ℕ → ℕ → Rail → Type 0
HasGoodNeeds pages i good r = IsTrue (touches_in pages i r)
    → All (λ need. IsTrue (rails_in good need)) r.needs

abbrev pub touched_some : ℕ → ℕ → Option Rail → Bool
touched_some pages i None = false
touched_some pages i (Some r) = touches_in pages i r

abbrev pub touched_in : Board → ℕ → ℕ → ℕ → Bool
touched_in b pages i d = touched_some pages i (slice_get b.rails d)
