-- A table after the row of an edge was joined into the row where it leads.
use Rattle.std.proofs.Common.{◌≡◌, ◌<◌, ◌⊎◌, ℕ, List, length, refl, ap, sym, ◌∙◌, subst}
use Rattle.std.proofs.Common.{inl, inr, arith, true, false, Bool}
use Rattle.std.proofs.lemmas.Bool.{cases_eq}
use Rattle.std.proofs.lemmas.Bool.Decides.{nat_tests}
use Rattle.std.specs.Prelude.{slice_set, nat_le, Option, Some, None}
use Rattle.board.specs.Boards.{Board}
use Rattle.facts.specs.declared.domain.row.Row.{Row as CodeRow}
use Rattle.facts.specs.transfer.Edges.{edge}
use Rattle.facts.specs.FactLaws.{without_ticks}
use Rattle.facts.specs.domain.Rows.{Row, IsRow, RowCovers, row_view}
use Rattle.table_check.specs.checker.Looking.{HasRowsOf}
use Rattle.table_check.specs.Tables.{rows_view, Table, row_of}
use Rattle.fact_search.specs.Searching.{IsGrown, IsLearnt}
use Rattle.fact_search.proofs.Shared.Covers.{covers_self, no_ticks_cover}
use Rattle.fact_search.proofs.Shared.Places.{none_some, some_same}
use Rattle.fact_search.proofs.Shared.Tables.{length_set, row_set_same, row_set_other, view_set}
use Rattle.fact_search.proofs.Shared.Tables.{view_length}

true_false : true ≡ false → ⊥
true_false e = cc

-- what the old row of a place, if it had one, says
abbrev IfRow : Option Row → (Row → Type 0) → Type 0
IfRow o P = (s : Row) → o ≡ Some s → P s

set_learnt : (b : Board) (place to : ℕ) (t : Table) (r u : Row) → HasRowsOf b t → to < length t
    → IsRow b r → RowCovers b r u → IfRow (row_of t to) (λ s. RowCovers b r s)
    → (place < to → (w : Row) → IfRow (row_of t to) (λ s. RowCovers b w s) → RowCovers b w u
    → RowCovers b w r)
    → IsLearnt b place t (slice_set t to (Some r)) (edge to u) true
set_learnt b place to t r u rows lt shaped covers grows least = record {
  places = length_set t to (Some r);
  rows = λ n row at'. shaped_at n row at' (cases_eq n to);
  same = λ n apart. row_set_other t to n (Some r) apart;
  kept = λ e. absurd (true_false e);
  covered = (r, here, covers);
  grown = λ s e. (r, here, grows s e);
  least = λ onward w over above s at'.
      let P : Row → Type 0 = λ z. RowCovers b w z in
      subst P (some_same r s (sym here ∙ at')) (least onward w over above);
}
  where
    here : row_of (slice_set t to (Some r)) to ≡ Some r
    here = row_set_same t to (Some r) lt

    shaped_at : (n : ℕ) (row : Row) → row_of (slice_set t to (Some r)) n ≡ Some row
        → (n ≡ to) ⊎ (n ≡ to → ⊥) → IsRow b row
    shaped_at n row at' (inl same) =
        let P : Row → Type 0 = λ z. IsRow b z in
        subst P (some_same r row (sym here
        ∙ (ap (row_of (slice_set t to (Some r))) (sym same) ∙ at'))) shaped
    shaped_at n row at' (inr apart) =
        rows n row (sym (row_set_other t to n (Some r) apart) ∙ at')

code_learnt : (b : Board) (place to : ℕ) (rows : List (Option CodeRow)) (r u : CodeRow)
    → HasRowsOf b (rows_view rows) → to < length rows → IsRow b (row_view r)
    → RowCovers b (row_view r) (row_view u)
    → IfRow (row_of (rows_view rows) to) (λ s. RowCovers b (row_view r) s)
    → (place < to → (w : Row) → IfRow (row_of (rows_view rows) to) (λ s. RowCovers b w s)
    → RowCovers b w (row_view u) → RowCovers b w (row_view r))
    → IsLearnt b place (rows_view rows) (rows_view (slice_set rows to (Some r)))
    (edge to (row_view u)) true
code_learnt b place to rows r u shaped lt row covers grows least =
    let e = view_length rows in
    let P : Table → Type 0 = λ t. IsLearnt b place (rows_view rows) t (edge to (row_view u)) true in
    subst P (sym (view_set rows to (Some r)))
    (set_learnt b place to (rows_view rows) (row_view r) (row_view u) shaped
    (omega (arith, lt, e)) row covers grows least)

under_ticks : (b : Board) (s u : Row) → RowCovers b s u → RowCovers b s (without_ticks u)
under_ticks b s u c = record {
  pages = c.pages;
  protects = c.protects;
  good = c.good;
  regs = c.regs;
  sources = c.sources;
  counters = c.counters;
  lost = c.lost;
}

-- a place without a row takes the edge's
pub taken : (b : Board) (place to : ℕ) (rows : List (Option CodeRow)) (r u : CodeRow)
    → HasRowsOf b (rows_view rows) → to < length rows → None ≡ row_of (rows_view rows) to
    → IsRow b (row_view r) → row_view r ≡ without_ticks (row_view u)
    → IsLearnt b place (rows_view rows) (rows_view (slice_set rows to (Some r)))
    (edge to (row_view u)) true
taken b place to rows r u shaped lt none row same =
    let P : Row → Type 0 = λ z. RowCovers b z (row_view u) in
    code_learnt b place to rows r u shaped lt row
    (subst P (sym same) (no_ticks_cover b (row_view u) (row_view u) (covers_self b (row_view u))))
    (λ s e. absurd (none_some s (none ∙ e)))
    (λ onward w x above.
    let Q : Row → Type 0 = λ z. RowCovers b w z in
    subst Q (sym same) (under_ticks b w (row_view u) above))

onward_test : (place to : ℕ) → place < to → nat_le to place ≡ false
onward_test place to lt = grind (arith, nat_tests)

-- the row of a place grows
pub grows : (b : Board) (place to : ℕ) (rows : List (Option CodeRow)) (old r u : CodeRow)
    (back : Bool)
    → HasRowsOf b (rows_view rows) → to < length rows
    → Some (row_view old) ≡ row_of (rows_view rows) to → back ≡ nat_le to place
    → IsGrown b (row_view r) (row_view old) (row_view u) back
    → IsLearnt b place (rows_view rows) (rows_view (slice_set rows to (Some r)))
    (edge to (row_view u)) true
grows b place to rows old r u back shaped lt there test grown =
    code_learnt b place to rows r u shaped lt grown.shaped grown.second
    (λ s e.
    let P : Row → Type 0 = λ z. RowCovers b (row_view r) z in
    subst P (some_same (row_view old) s (there ∙ e)) grown.first)
    (λ onward w over above. grown.least (test ∙ onward_test place to onward) w
    (over (row_view old) (sym there)) above)

-- the row of a place knows it already
pub known : (b : Board) (place to : ℕ) (t : Table) (old u : Row) → HasRowsOf b t
    → Some old ≡ row_of t to → RowCovers b old u → IsLearnt b place t t (edge to u) false
known b place to t old u rows there covers = record {
  places = refl;
  rows = rows;
  same = λ n apart. refl;
  kept = λ e. refl;
  covered = (old, sym there, covers);
  grown = λ s e. (s, e, covers_self b s);
  least = λ onward w over above s e. over s e;
}
