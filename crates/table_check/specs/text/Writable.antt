-- Tables that can be written.
use Rattle.std.specs.Prelude.{◌≡◌, ◌<◌, ◌^◌, ℕ, length, All, IsTrue, IfSome}
use Rattle.board.specs.Boards.{Board}
use Rattle.facts.specs.domain.Sets.{Set, HasValue, is_page, is_protect}
use Rattle.facts.specs.domain.Rows.{Row, IsSource}
use Rattle.facts.specs.declared.domain.span.Span.{Span}
use Rattle.table_check.specs.Tables.{Table}

-- a nonempty set of each kind for each target, with rails and targets of the board
pub record IsShapedRow (b : Board) (r : Row) : Type 0 where
  pub page_sets : length r.pages ≡ length b.targets
  pub pages : All HasValue r.pages
  pub protect_sets : length r.protects ≡ length b.targets
  pub protects : All HasValue r.protects
  pub good : (d : ℕ) → IsTrue (r.good d) → d < length b.rails
  pub reg_count : length r.regs ≡ 8
  pub source_count : length r.sources ≡ 8
  pub sources : All (IsSource b) r.sources
  pub counter_count : length r.counters ≡ 4
  pub coeff_count : length r.coeffs ≡ 4

abbrev pub IsShaped : Board → Table → Type 0
IsShaped b t = All (λ row. IfSome row (IsShapedRow b)) t

-- each value is of its set's kind, and each number has at most 16 bits in spans and 64 in ticks
abbrev pub IsOfKind : (ℕ → Type 0) → Set → Type 0
IsOfKind IsValue set = (v : ℕ) → IsTrue (set v) → IsValue v

abbrev pub IsWordSpan : Span → Type 0
IsWordSpan span = (span.lo < 65536) × (span.hi < 65536)

pub record IsTypedRow (r : Row) : Type 0 where
  pub pages : All (λ set. IsOfKind (λ v. IsTrue (is_page v)) set) r.pages
  pub protects : All (λ set. IsOfKind (λ v. IsTrue (is_protect v)) set) r.protects
  pub regs : All IsWordSpan r.regs
  pub counters : All IsWordSpan r.counters
  pub base : r.base < 2 ^ 64
  pub coeffs : All (λ k. k < 2 ^ 64) r.coeffs
  pub lost : IsWordSpan r.lost
  pub lost_coeff : r.lost_coeff < 2 ^ 64

-- the numbers of the places have 64 bits as well
pub record IsTyped (t : Table) : Type 0 where
  pub few : length t < 2 ^ 64
  pub rows : All (λ row. IfSome row IsTypedRow) t

abbrev pub IsWritable : Board → Table → Type 0
IsWritable b t = IsShaped b t × IsTyped t
