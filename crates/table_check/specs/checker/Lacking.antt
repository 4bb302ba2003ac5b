-- K7: where the ticks that are left don't pay for what follows.
use Rattle.std.specs.Prelude.{◌≡◌, ℕ, ◌+◌, ◌-◌, ◌<◌, ◌≤◌, List, [], ◌∷◌, nat_lt, if◌then◌else◌}
use Rattle.board.specs.Boards.{Board}
use Rattle.facts.specs.declared.domain.span.Span.{Span}
use Rattle.facts.specs.domain.Rows.{Row, InSpan, InSpans, rank}
use Rattle.table_check.specs.declared.checker.breach.Spot.{Spot}

-- the counter at which a row has least beside the next one, by its coefficient in both: the end of
-- its span where that grows, else its beginning
abbrev pub dearest : ℕ → ℕ → Span → ℕ
dearest before after span = if nat_lt before after then span.hi else span.lo

abbrev pub dearest_counters : List Span → List ℕ → List ℕ → List ℕ
dearest_counters (s ∷ ss) (k ∷ ks) (j ∷ js) = dearest k j s ∷ dearest_counters ss ks js
dearest_counters ss ks js = []

-- the number of lost arbitrations; the more were lost, the fewer may still be
abbrev pub dearest_lost : ℕ → ℕ → Span → ℕ
dearest_lost before after lost = if nat_lt before after then lost.lo else lost.hi

-- at this spot within a row's spans more ticks are needed, for what follows and for the next row,
-- than are left, and nowhere more are lacking
pub record IsUnpaid (b : Board) (ticks : ℕ) (next row : Row) (spot : Spot) (needed left : ℕ)
    : Type 0 where
  pub counters_are : spot.counters ≡ dearest_counters row.counters row.coeffs next.coeffs
  pub lost_is : spot.lost ≡ dearest_lost row.lost_coeff next.lost_coeff row.lost
  pub counters : InSpans row.counters spot.counters
  pub lost : InSpan row.lost spot.lost
  pub needed_is : needed ≡ ticks + rank next spot.counters (b.contentions - spot.lost)
  pub left_is : left ≡ rank row spot.counters (b.contentions - spot.lost)
  pub lacks : left < needed
  pub most : (cs : List ℕ) → InSpans row.counters cs → (l : ℕ) → InSpan row.lost l
      → ticks + rank next cs (b.contentions - l) + left
      ≤ needed + rank row cs (b.contentions - l)
