-- Rows of the code that are rows of a board, part by part. No public contract cites this: `Rows`
-- says what is asked.
use Rattle.std.specs.Prelude.{◌≡◌, ◌<◌, ℕ, length}
use Rattle.facts.specs.declared.domain.row.Row.{Row as CodeRow}
use Rattle.board.specs.Boards.{Target, Board}
use Rattle.targets.specs.States.{IsTargetAt}

unfoldable pub EachTarget : Board → (ℕ → Target → Type 0) → Type 0
EachTarget b Holds = (i : ℕ) (t : Target) → IsTargetAt b i t → Holds i t

-- the targets before an index
unfoldable pub EachBefore : ℕ → Board → (ℕ → Target → Type 0) → Type 0
EachBefore index b Holds = (i : ℕ) (t : Target) → i < index → IsTargetAt b i t → Holds i t

-- the arrays of a row have their lengths
abbrev pub IsSizedRow : CodeRow → Type 0
IsSizedRow row =
    (length row.regs ≡ 8) × (length row.sources ≡ 8) × (length row.counters ≡ 4)
    × (length row.coeffs ≡ 4)
