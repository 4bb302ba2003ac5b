-- Look-ups by the code's rows are look-ups by the table.
use Rattle.std.proofs.Common.{◌≡◌, ℕ, List, [], ◌∷◌, Bool, Option, Some, None, option_map, map}
use Rattle.std.proofs.Common.{find, ◌==◌, refl, ap, ◌∙◌, inl, inr}
use Rattle.std.proofs.lemmas.Bool.{cases_Bool}
use Rattle.std.specs.Str.{bytes_eq}
use Rattle.std.specs.Borrow.{Bor}
use Rattle.pmbus_table.specs.Table.{Row, table, row_of, row_named}
use Rattle.pmbus_table.specs.Rows.{Named, row_view, find_code, find_name}

find_mapped : (p : Row → Bool) (rows : List Named)
    → option_map row_view (find (λ r. p (row_view r)) rows) ≡ find p (map row_view rows)
find_mapped p [] = refl
find_mapped p (r ∷ rows) = elim (cases_Bool (p (row_view r))) [
  | inl t ↦ simp t
  | inr f ↦ simp f (find_mapped p rows)
]

viewed : (o : Option (Bor Named))
    → option_map (λ r. row_view r.now) o ≡ option_map row_view (option_map (λ r. r.now) o)
viewed None = refl
viewed (Some r) = refl

pub code_found : (code : ℕ) (rows : List Named) (r : Option (Bor Named))
    → option_map (λ r. r.now) r ≡ find_code rows code → map row_view rows ≡ table
    → option_map (λ r. row_view r.now) r ≡ row_of code
unfolding find_code
code_found code rows r e t =
    viewed r ∙ ap (option_map row_view) e ∙ find_mapped (λ r. r.code == code) rows
    ∙ ap (find (λ r. r.code == code)) t

pub name_found : (name : List ℕ) (rows : List Named) (r : Option (Bor Named))
    → option_map (λ r. r.now) r ≡ find_name rows name → map row_view rows ≡ table
    → option_map (λ r. row_view r.now) r ≡ row_named name
unfolding find_name
name_found name rows r e t =
    viewed r ∙ ap (option_map row_view) e ∙ find_mapped (λ r. bytes_eq r.name name) rows
    ∙ ap (find (λ r. bytes_eq r.name name)) t
