-- Rails that need another, themselves or through needs of needs.
use Rattle.std.specs.Prelude.{◌≡◌, ◌<◌, ◌↔◌, ℕ, IsTrue, Contains, Some, length, slice_get}
use Rattle.board.specs.Boards.{Rail, Board}
use Rattle.board.specs.Valid.{IsBoard}
use Rattle.facts.specs.domain.Sets.{Set}
use Rattle.program_lints.specs.Lints.{leaning}

-- a set of rails has, with each of its rails, those that need it
abbrev pub TakesUp : Board → Set → Type 0
TakesUp b s =
    (d need : ℕ) (r : Rail) → slice_get b.rails d ≡ Some r → Contains r.needs need
    → IsTrue (s need) → IsTrue (s d)

-- a rail is another one, or needs it, itself or through needs of needs: it is in each such set
-- that has the other one
abbrev pub LeansOn : Board → ℕ → ℕ → Type 0
LeansOn b need d = (s : Set) → IsTrue (s need) → TakesUp b s → IsTrue (s d)

-- as many needs as there may be rails are enough
abbrev pub LeaningIsNeeding : Type 0
LeaningIsNeeding =
    (b : Board) (need d : ℕ) → IsBoard b → need < length b.rails
    → IsTrue (leaning b 64 need d) ↔ LeansOn b need d
