-- Tables of rows of the board can be written, whatever their ticks are.
use Rattle.std.proofs.Common.{◌≡◌, suc, List, [], ◌∷◌, length, refl, ap, sym, ◌∙◌}
use Rattle.std.proofs.Common.{subst, All}
use Rattle.std.specs.Prelude.{Option, Some, None, IfSome, option_map}
use Rattle.std.specs.List.{AllByRecursion}
use Rattle.std.proofs.lemmas.List.Elements.{All-from_recursion, recursion_from_All}
use Rattle.board.specs.Boards.{Board}
use Rattle.facts.specs.declared.domain.row.Row.{Row as CodeRow}
use Rattle.facts.specs.declared.domain.source.Source.TheVariants as source
use Rattle.facts.specs.domain.Rows.{Row, IsRow, IsSource, row_view}
use Rattle.facts.specs.domain.Sets.{empty, HasValue}
use Rattle.table_check.specs.checker.Looking.{HasRowsOf}
use Rattle.table_check.specs.Tables.{rows_view, Table, row_of}
use Rattle.table_check.specs.text.Writable.{IsShaped, IsShapedRow}
use Rattle.fact_search.specs.declared.loops.Ticks.{Ticks}
use Rattle.fact_search.specs.Ticking.{ticked, ticked_row, with_left}
use Rattle.fact_search.proofs.Shared.Places.{found, none_some, some_same}
use Rattle.fact_search.proofs.Rows.Widened.{all_by_index}

-- a row of the board has nonempty sets, and names of the board
row_shaped : (b : Board) (row : Row) → IsRow b row → IsShapedRow b row
unfolding HasValue
row_shaped b row k = record {
  page_sets = k.page_sets;
  pages = all_by_index HasValue row.pages empty (length b.targets) k.page_sets
      (λ i lt. let t = found b.targets i lt in (k.pages i t.0 t.1).some);
  protect_sets = k.protect_sets;
  protects = all_by_index HasValue row.protects empty (length b.targets) k.protect_sets
      (λ i lt. (k.protects i lt).some);
  good = k.good;
  reg_count = k.reg_count;
  source_count = k.source_count;
  sources = all_by_index (IsSource b) row.sources source.None 8 k.source_count k.sources;
  counter_count = k.counter_count;
  coeff_count = k.coeff_count;
}

left_shaped : (b : Board) (left : Ticks) (row : Row) → length left.coeffs ≡ 4
    → IsShapedRow b row → IsShapedRow b (with_left left row)
left_shaped b left row count k = record {
  page_sets = k.page_sets;
  pages = k.pages;
  protect_sets = k.protect_sets;
  protects = k.protects;
  good = k.good;
  reg_count = k.reg_count;
  source_count = k.source_count;
  sources = k.sources;
  counter_count = k.counter_count;
  coeff_count = count;
}

one_shaped : (b : Board) (left : Option Ticks) (old : Option Row) (row : CodeRow)
    → Some (row_view row) ≡ ticked_row left old → ((x : Row) → old ≡ Some x → IsRow b x)
    → length row.coeffs ≡ 4 → IsShapedRow b (row_view row)
one_shaped b left None row e k count = absurd (none_some (row_view row) (sym e))
one_shaped b None (Some x) row e k count = absurd (none_some (row_view row) (sym e))
one_shaped b (Some left) (Some x) row e k count =
    let P : Row → Type 0 = λ z. IsShapedRow b z in
    let same = some_same (row_view row) (with_left left x) e in
    let four : length left.coeffs ≡ 4 = sym (ap (λ (z : Row). length z.coeffs) same) ∙ count in
    subst P (sym same) (left_shaped b left x four (row_shaped b x (k x refl)))

abbrev HasFour : Option CodeRow → Type 0
HasFour row = IfSome row (λ r. length r.coeffs ≡ 4)

place_shaped : (b : Board) (left : Option Ticks) (old : Option Row) (row : Option CodeRow)
    → option_map row_view row ≡ ticked_row left old → ((x : Row) → old ≡ Some x → IsRow b x)
    → HasFour row → IfSome (option_map row_view row) (IsShapedRow b)
place_shaped b left old None e k count = tt
place_shaped b left old (Some row) e k count = one_shaped b left old row e k count

heads : {X : Type 0} {u v : X} {us vs : List X} → u ∷ us ≡ v ∷ vs → u ≡ v
heads e = cc

tails : {X : Type 0} {u v : X} {us vs : List X} → u ∷ us ≡ v ∷ vs → us ≡ vs
tails e = cc

cons_nil : {X : Type 0} {y : X} {ys : List X} → y ∷ ys ≡ [] → ⊥
cons_nil e = cc

first_row : (old : Option Row) (t : Table) (x : Row) → old ≡ Some x → row_of (old ∷ t) 0 ≡ Some x
first_row None t x e = absurd (none_some x e)
first_row (Some y) t x e = e

each_shaped : (b : Board) (lefts : List Ticks) (t : Table) (out : List (Option CodeRow))
    → rows_view out ≡ ticked lefts t → HasRowsOf b t → AllByRecursion HasFour out
    → AllByRecursion (λ row. IfSome row (IsShapedRow b)) (rows_view out)
each_shaped b lefts t [] e k four = tt
each_shaped b lefts [] (x ∷ out) e k four = absurd (cons_nil e)
each_shaped b [] (y ∷ t) (x ∷ out) e k four = (
  place_shaped b None y x (heads e) (λ z f. k 0 z (first_row y t z f)) four.0,
  each_shaped b [] t out (tails e) (λ n z f. k (suc n) z f) four.1,
)
each_shaped b (left ∷ lefts) (y ∷ t) (x ∷ out) e k four = (
  place_shaped b (Some left) y x (heads e) (λ z f. k 0 z (first_row y t z f)) four.0,
  each_shaped b lefts t out (tails e) (λ n z f. k (suc n) z f) four.1,
)

pub shaped : (b : Board) (lefts : List Ticks) (t : Table) (out : List (Option CodeRow))
    → rows_view out ≡ ticked lefts t → HasRowsOf b t → All HasFour out → IsShaped b (rows_view out)
shaped b lefts t out e k four =
    All-from_recursion (λ (row : Option Row). IfSome row (IsShapedRow b)) (rows_view out)
    (each_shaped b lefts t out e k (recursion_from_All HasFour out four))
