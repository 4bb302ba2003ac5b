-- Rows that differ in their ticks alone.
use Rattle.std.proofs.Common.{◌≡◌, ◌≤◌, ℕ, List, length, ap, arith}
use Rattle.std.specs.Prelude.{Some, replicate, slice_get}
use Rattle.board.specs.Boards.{Board}
use Rattle.seq_program.specs.declared.instr.Instr.{Instr}
use Rattle.facts.specs.declared.duties.rule.Rule.TheVariants.{K1}
use Rattle.facts.specs.FactLaws.{IsShaped, without_ticks}
use Rattle.facts.specs.domain.Rows.{Row, IsRow, RowCovers, most_ticks}
use Rattle.facts.specs.well_formed.Starts.{HoldsStarts}
use Rattle.table_check.specs.checker.ByPlace.{MeetsAll}
use Rattle.fact_search.specs.Searching.{Premises}
use Rattle.fact_search.specs.declared.loops.Ticks.{Ticks}
use Rattle.fact_search.specs.Ticking.{with_left}
use Rattle.fact_search.proofs.Leads.Keeps.{none_at}
use Rattle.fact_search.proofs.Leads.Said.{is_said}
use Rattle.fact_search.proofs.Shared.Covers.{covers_self, row_shaped}

-- they cover one another
pub over : (b : Board) (s row : Row) (left : Ticks) → RowCovers b s row
    → RowCovers b (with_left left s) row
over b s row left c = record {
  pages = c.pages;
  protects = c.protects;
  good = c.good;
  regs = c.regs;
  sources = c.sources;
  counters = c.counters;
  lost = c.lost;
}

pub under : (b : Board) (s row : Row) (left : Ticks) → RowCovers b s row
    → RowCovers b s (with_left left row)
under b s row left c = record {
  pages = c.pages;
  protects = c.protects;
  good = c.good;
  regs = c.regs;
  sources = c.sources;
  counters = c.counters;
  lost = c.lost;
}

pub left_shaped : (b : Board) (row : Row) (left : Ticks) → IsRow b row
    → IsShaped b (with_left left row)
left_shaped b row left k = row_shaped b row k

pub left_row : (b : Board) (row : Row) (left : Ticks) → left.base ≤ most_ticks
    → left.coeffs ≡ replicate 4 0 → left.lost ≤ most_ticks → IsRow b row
    → IsRow b (with_left left row)
left_row b row left le none few k = record {
  page_sets = k.page_sets;
  protect_sets = k.protect_sets;
  pages = k.pages;
  protects = k.protects;
  good = k.good;
  reg_count = k.reg_count;
  regs = k.regs;
  reg_range = k.reg_range;
  source_count = k.source_count;
  sources = k.sources;
  counter_count = k.counter_count;
  counters = k.counters;
  lost = k.lost;
  lost_range = k.lost_range;
  base = le;
  coeff_count = ap (λ (xs : List ℕ). length xs) none;
  coeffs = λ c lt. let z = none_at left.coeffs c none lt in omega (arith, z);
  lost_coeff = few;
}

pub left_starts : (b : Board) (row : Row) (left : Ticks) → left.lost ≡ 0
    → HoldsStarts b (without_ticks row) → HoldsStarts b (with_left left row)
left_starts b row left none k = record {
  pages = k.pages;
  protects = k.protects;
  good = k.good;
  regs = k.regs;
  counters = k.counters;
  sources = k.sources;
  lost = k.lost;
  lost_coeff = none;
}

-- duties don't ask for ticks
pub met_left : (b : Board) (p : List Instr) (place : ℕ) (i : Instr) (row : Row) (left : Ticks)
    → Premises b p → IsRow b row → slice_get p place ≡ Some i → MeetsAll b i row
    → MeetsAll b i (with_left left row)
met_left b p place i row left given shaped here met rule =
    given.duties b i row (with_left left row) rule
    (is_said b p place i row given.program here (met K1)) (record {
      left = row_shaped b row shaped;
      right = left_shaped b row left shaped;
      covers = under b row row left (covers_self b row);
    }) (met rule)

pub left_met : (b : Board) (p : List Instr) (place : ℕ) (i : Instr) (row : Row) (left : Ticks)
    → Premises b p → IsRow b row → slice_get p place ≡ Some i
    → MeetsAll b i (with_left left row) → MeetsAll b i row
left_met b p place i row left given shaped here met rule =
    given.duties b i (with_left left row) row rule
    (is_said b p place i (with_left left row) given.program here (met K1)) (record {
      left = left_shaped b row left shaped;
      right = row_shaped b row shaped;
      covers = over b row row left (covers_self b row);
    }) (met rule)
