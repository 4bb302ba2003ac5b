-- Tables, row by row.
use Rattle.std.proofs.Common.{◌≡◌, ◌<◌, ℕ, zero, suc, List, [], ◌∷◌, ◌++◌, length, refl, ap}
use Rattle.std.proofs.Common.{arith}
use Rattle.std.specs.Prelude.{slice_set, Option, Some, None, option_map}
use Rattle.facts.specs.declared.domain.row.Row.{Row as CodeRow}
use Rattle.facts.specs.domain.Rows.{Row, row_view}
use Rattle.table_check.specs.Tables.{rows_view, Table, row_of}
use Rattle.fact_search.proofs.Shared.Places.{none_some}

pub row_set_same : (t : Table) (m : ℕ) (x : Option Row) → m < length t
    → row_of (slice_set t m x) m ≡ x
row_set_same [] m x lt = absurd (omega arith)
row_set_same (y ∷ t) zero None lt = refl
row_set_same (y ∷ t) zero (Some x) lt = refl
row_set_same (y ∷ t) (suc m) x lt = row_set_same t m x (omega arith)

pub row_set_other : (t : Table) (m n : ℕ) (x : Option Row) → (n ≡ m → ⊥)
    → row_of (slice_set t m x) n ≡ row_of t n
row_set_other [] m n x apart = refl
row_set_other (y ∷ t) zero zero x apart = absurd (apart refl)
row_set_other (y ∷ t) zero (suc n) x apart = refl
row_set_other (y ∷ t) (suc m) zero x apart = refl
row_set_other (y ∷ t) (suc m) (suc n) x apart = row_set_other t m n x (λ e. apart (ap suc e))

pub length_set : {X : Type 0} (t : List X) (m : ℕ) (x : X) → length (slice_set t m x) ≡ length t
length_set [] m x = refl
length_set (y ∷ t) zero x = refl
length_set (y ∷ t) (suc m) x = ap suc (length_set t m x)

pub row_inside : (t : Table) (n : ℕ) (row : Row) → row_of t n ≡ Some row → n < length t
row_inside [] n row e = absurd (none_some row e)
row_inside (x ∷ t) zero row e = omega arith
row_inside (x ∷ t) (suc n) row e = let k = row_inside t n row e in omega (arith, k)

-- the code's rows
pub view_set : (rows : List (Option CodeRow)) (m : ℕ) (x : Option CodeRow)
    → rows_view (slice_set rows m x) ≡ slice_set (rows_view rows) m (option_map row_view x)
view_set [] m x = refl
view_set (y ∷ rows) zero x = refl
view_set (y ∷ rows) (suc m) x = ap (λ t. option_map row_view y ∷ t) (view_set rows m x)

pub view_length : (rows : List (Option CodeRow)) → length (rows_view rows) ≡ length rows
view_length [] = refl
view_length (y ∷ rows) = ap suc (view_length rows)

-- one more place without a row
pub view_none : (rows : List (Option CodeRow)) (n : ℕ)
    → row_of (rows_view (rows ++ None ∷ [])) n ≡ row_of (rows_view rows) n
view_none [] zero = refl
view_none [] (suc n) = none_at n
  where
    none_at : (n : ℕ) → row_of [] n ≡ None
    none_at n = refl
view_none (None ∷ rows) zero = refl
view_none (Some y ∷ rows) zero = refl
view_none (y ∷ rows) (suc n) = view_none rows n
