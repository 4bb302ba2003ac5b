-- Rows of the code that can be written, part by part. No public contract cites this: `Writable`
-- says what is asked.
use Rattle.std.specs.Prelude.{◌≡◌, ◌<◌, ℕ, length, All, IsTrue, Option, IfSome, option_map}
use Rattle.board.specs.Boards.{Board}
use Rattle.facts.specs.domain.Sets.{pages_in, protects_in, rails_in, HasValue}
use Rattle.facts.specs.domain.Rows.{IsSource, row_view}
use Rattle.facts.specs.declared.domain.row.Row.{Row as CodeRow}
use Rattle.table_check.specs.text.Writable.{IsShapedRow}

abbrev pub IsShapedByPart : Board → CodeRow → Type 0
IsShapedByPart b row =
    (length row.pages.items ≡ length b.targets)
    × All (λ s. HasValue (pages_in s)) row.pages.items
    × (length row.protects.items ≡ length b.targets)
    × All (λ s. HasValue (protects_in s)) row.protects.items
    × ((d : ℕ) → IsTrue (rails_in row.good d) → d < length b.rails)
    × All (IsSource b) row.sources

abbrev pub IsShapedPlace : Board → Option CodeRow → Type 0
IsShapedPlace b place = IfSome (option_map row_view place) (IsShapedRow b)
