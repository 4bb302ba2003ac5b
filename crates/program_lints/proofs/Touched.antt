-- Rails from 64 on, which no board has.
use Rattle.std.proofs.Common.{◌≡◌, ◌≤◌, ◌<◌, ℕ, false, Option, Some, None, slice_get, length, refl}
use Rattle.std.proofs.Common.{ap, arith}
use Rattle.board.specs.Boards.{Rail, Board}
use Rattle.board.specs.Valid.{IsBoard}
use Rattle.facts.specs.domain.Rows.{Row}
use Rattle.facts.specs.duties.Duties.{is_touched, touches_some}
use Rattle.program_lints.proofs.Places.{within}

pub untouched : (b : Board) (row : Row) (i d : ℕ) → IsBoard b → 64 ≤ d
    → is_touched b row i d ≡ false
untouched b row i d is le = by (slice_get b.rails d) refl
  where
    by : (o : Option Rail) → slice_get b.rails d ≡ o → is_touched b row i d ≡ false
    by None e = ap (touches_some row i) e
    by (Some r) e =
        let lt : d < length b.rails = within b.rails d r e in
        let few = is.few_rails in absurd (omega (arith, lt, few, le))
