-- A command that takes a form has a code of one byte.
use Rattle.std.proofs.Common.{◌||◌, option_and_then}
use Rattle.std.proofs.Common.{◌≡◌, ◌<◌, ◌==◌, ◌&&◌, ℕ, Bool, true, false, Option, Some, None, List}
use Rattle.std.proofs.Common.{[], ◌∷◌, IfSome, inl, inr, refl, arith, find, nat_lt, is_some}
use Rattle.std.specs.List.{list_all}
use Rattle.std.proofs.lemmas.Bool.{cases_Bool, eqb-true}
use Rattle.std.proofs.lemmas.Bool.Decides.{nat_tests}
use Rattle.smbus.specs.declared.message.Form.{Form}
use Rattle.pmbus_table.specs.Table.{Row, table, row_of}
use Rattle.pmbus_table.specs.Commands.{is_manufacturer, form_written, form_read, takes_form}
use Rattle.pmbus_table.specs.Forms.{is_form}

small_rows : list_all (λ r. nat_lt r.code 256) table ≡ true
unfolding table
small_rows = refl

both : (a b : Bool) → (a && b) ≡ true → (a ≡ true) × (b ≡ true)
both true b e = (refl, e)
both false b e = cc

found_small : (code : ℕ) (rows : List Row) → list_all (λ r. nat_lt r.code 256) rows ≡ true
    → IfSome (find (λ r. r.code == code) rows) (λ r. code < 256)
found_small code [] all = tt
found_small code (r ∷ rows) all =
    let parts = both (nat_lt r.code 256) (list_all (λ r. nat_lt r.code 256) rows) all in
    elim (cases_Bool (r.code == code)) [
      | inl t ↦
          let same : r.code ≡ code = eqb-true r.code code t in
          let small : r.code < 256 = grind (arith, nat_tests) in
          rw t (omega (arith, same, small))
      | inr f ↦ rw f (found_small code rows parts.1)
    ]

row_small : (code : ℕ) → is_some (row_of code) ≡ true → code < 256
row_small code e = by (row_of code) e (found_small code table small_rows)
  where
    by : (o : Option Row) → is_some o ≡ true → IfSome o (λ r. code < 256) → code < 256
    by None e small = cc
    by (Some r) e small = small

-- a command that takes a form is known
known : (o : Option Row) (f : Form)
    → (is_form f (option_and_then (λ r. r.written) o)
    || is_form f (option_and_then (λ r. r.read) o)) ≡ true → is_some o ≡ true
known None f t = t
known (Some r) f t = refl

pub taken_small : (code : ℕ) (f : Form) → takes_form code f ≡ true → code < 256
taken_small code f t = elim (cases_Bool (is_manufacturer code)) [
  | inl m ↦ grind (arith, nat_tests)
  | inr n ↦
      let test : (is_form f (form_written code) || is_form f (form_read code)) ≡ true = rw n at t in
      row_small code (known (row_of code) f test)
]
