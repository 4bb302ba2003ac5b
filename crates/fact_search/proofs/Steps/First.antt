-- What is known before any place is visited.
use Rattle.std.proofs.Common.{◌≡◌, ◌+◌, ℕ, zero, suc, List, [], ◌∷◌, ◌++◌, length, refl, ap, sym}
use Rattle.std.proofs.Common.{◌∙◌, subst, arith, Bool, true, false}
use Rattle.std.proofs.lemmas.Bool.{false≢true}
use Rattle.std.proofs.lemmas.List.{length-append}
use Rattle.std.specs.Prelude.{Option, Some, None}
use Rattle.board.specs.Boards.{Board}
use Rattle.seq_program.specs.declared.instr.Instr.{Instr}
use Rattle.facts.specs.declared.domain.row.Row.{Row as CodeRow}
use Rattle.facts.specs.FactLaws.{without_ticks}
use Rattle.facts.specs.domain.Rows.{Row, IsRow, RowCovers, row_view}
use Rattle.facts.specs.well_formed.Starts.{HoldsStarts}
use Rattle.table_check.specs.Tables.{rows_view, Table, row_of}
use Rattle.fact_search.specs.Starting.{IsStartRow}
use Rattle.fact_search.specs.Searching.{IsSearched, Premises, is_changed}
use Rattle.fact_search.proofs.Shared.Places.{none_some, some_same}
use Rattle.fact_search.proofs.Shared.Tables.{view_length, view_none}

-- the row of the start at place 0, which is to be visited, and no other
pub record IsFirst (b : Board) (t : Table) (changed : List Bool) (count : ℕ) : Type 0 where
  pub places : length t ≡ count
  pub flags : length changed ≡ count
  pub first : (row : Row) × (row_of t 0 ≡ Some row) × IsStartRow b row
  pub others : (n : ℕ) (row : Row) → row_of t n ≡ Some row → n ≡ 0
  pub flag : is_changed changed 0 ≡ true

pub first_one : (b : Board) (rows : List (Option CodeRow)) (changed : List Bool) (row : CodeRow)
    → rows ≡ Some row ∷ [] → changed ≡ true ∷ [] → IsStartRow b (row_view row)
    → IsFirst b (rows_view rows) changed 1
first_one b rows changed row e f k =
    let P : List (Option CodeRow) → Type 0 = λ xs. IsFirst b (rows_view xs) changed 1 in
    let Q : List Bool → Type 0 = λ xs. IsFirst b (rows_view (Some row ∷ [])) xs 1 in
    subst P (sym e) (subst Q (sym f) (record {
      places = refl;
      flags = refl;
      first = (row_view row, refl, k);
      others = none_later;
      flag = refl;
    }))
  where
    none_later : (n : ℕ) (x : Row) → row_of (rows_view (Some row ∷ [])) n ≡ Some x → n ≡ 0
    none_later zero x at' = refl
    none_later (suc n) x at' = absurd (none_some x at')

flag_more : (changed : List Bool) → is_changed changed 0 ≡ true
    → is_changed (changed ++ false ∷ []) 0 ≡ true
flag_more [] e = absurd (false≢true e)
flag_more (x ∷ changed) e = e

pub first_more : (b : Board) (rows more : List (Option CodeRow)) (changed flags : List Bool)
    (n : ℕ) → more ≡ rows ++ None ∷ [] → flags ≡ changed ++ false ∷ []
    → IsFirst b (rows_view rows) changed n → IsFirst b (rows_view more) flags (n + 1)
first_more b rows more changed flags n e f k =
    let P : List (Option CodeRow) → Type 0 = λ xs. IsFirst b (rows_view xs) flags (n + 1) in
    let Q : List Bool → Type 0 = λ xs. IsFirst b (rows_view (rows ++ None ∷ [])) xs (n + 1) in
    subst P (sym e) (subst Q (sym f) (record {
      places =
          let a = view_length (rows ++ None ∷ []) in
          let c = length-append rows (None ∷ []) in
          let d = view_length rows in
          let h = k.places in omega (arith, a, c, d, h);
      flags =
          let c = length-append changed (false ∷ []) in
          let h = k.flags in omega (arith, c, h);
      first = (k.first.0, view_none rows 0 ∙ k.first.1, k.first.2);
      others = λ m row at'. k.others m row (sym (view_none rows m) ∙ at');
      flag = flag_more changed k.flag;
    }))

-- what holds the starts does so whatever its ticks are
bare_starts : (b : Board) (row : Row) → HoldsStarts b row → HoldsStarts b (without_ticks row)
bare_starts b row k = record {
  pages = k.pages;
  protects = k.protects;
  good = k.good;
  regs = k.regs;
  counters = k.counters;
  sources = k.sources;
  lost = k.lost;
  lost_coeff = refl;
}

pub first_searched : (b : Board) (p : List Instr) (t : Table) (changed : List Bool)
    → Premises b p → IsFirst b t changed (length p) → IsSearched b p t changed
first_searched b p t changed given k = record {
  places = k.places;
  flags = k.flags;
  rows = λ n row at'.
      let P : Row → Type 0 = λ z. IsRow b z in
      subst P (only n row at') (k.first.2).shaped;
  start = (k.first.0, k.first.1, bare_starts b k.first.0 (k.first.2).holds);
  followed = λ n e i row here there.
      absurd (false≢true (sym e ∙ (ap (is_changed changed) (k.others n row there) ∙ k.flag)));
  below = λ forward any inductive n row at'.
      let s = ((given.by_place b p any).0 inductive).0.start in (
        s.0,
        ap (row_of any) (k.others n row at') ∙ s.1,
        (let P : Row → Type 0 = λ z. RowCovers b s.0 z in
            subst P (only n row at') ((k.first.2).least s.0 s.2)),
      );
}
  where
    only : (n : ℕ) (row : Row) → row_of t n ≡ Some row → k.first.0 ≡ row
    only n row at' =
        some_same k.first.0 row (sym k.first.1 ∙ (ap (row_of t) (sym (k.others n row at'))
        ∙ at'))
