-- Forms, commands and entries: which writes are guarded, and what an entry is.
use Rattle.std.proofs.Common.{◌≡◌, ◌==◌, ◌&&◌, ◌||◌, ◌⊎◌, not, ℕ, Bool, true, false, Option, Some}
use Rattle.std.proofs.Common.{None, IfSome, List, [], ◌∷◌, inl, inr, cond, find, refl, sym, ap}
use Rattle.std.proofs.Common.{subst, ◌∙◌}
use Rattle.std.specs.Prelude.{IsTrue, option_and_then}
use Rattle.std.specs.List.{list_all}
use Rattle.std.proofs.lemmas.Bool.{cases_Bool, eqb-true, and_parts, or_cases, false≢true}
use Rattle.std.proofs.lemmas.Bool.{true≢false, not-true}
use Rattle.smbus.specs.declared.message.Form.{Form}
use Rattle.smbus.specs.declared.message.Form.TheVariants as form
use Rattle.pmbus_table.specs.Codes.{clear_faults_code}
use Rattle.pmbus_table.specs.Table.{Row as TableRow, table, row_of}
use Rattle.pmbus_table.specs.Forms.{form_number, is_form}
use Rattle.pmbus_table.specs.Commands.{form_written, form_read, is_manufacturer}
use Rattle.pmbus_table.specs.Commands.{is_manufacturer_form, is_plain_read, takes_form}
use Rattle.pmbus_table.specs.Commands.{counts_as_write}
use Rattle.board.specs.Boards.{Allow, is_for, entry_of}
use Rattle.simulator.specs.Safe.{query_code, is_guarded}
use Rattle.simulator.specs.StepDoes.{writes_data}
use Rattle.facts.proofs.Shared.Places.{some_same, none_some}

form_back : ℕ → Form
form_back n =
    cond (n == 0) (form.Quick false) (cond (n == 1) (form.Quick true) (cond (n == 2) form.SendByte
    (cond (n == 3) form.ReceiveByte (cond (n == 4) form.WriteByte (cond (n == 5) form.WriteWord
    (cond (n == 6) form.ReadByte (cond (n == 7) form.ReadWord (cond (n == 8) form.ProcessCall
    (cond (n == 9) form.BlockWrite
    (cond (n == 10) form.BlockRead (cond (n == 11) form.BlockProcessCall
    form.Alert)))))))))))

form_back-number : (f : Form) → form_back (form_number f) ≡ f
unfolding form_back
form_back-number (form.Quick false) = refl
form_back-number (form.Quick true) = refl
form_back-number form.SendByte = refl
form_back-number form.ReceiveByte = refl
form_back-number form.WriteByte = refl
form_back-number form.WriteWord = refl
form_back-number form.ReadByte = refl
form_back-number form.ReadWord = refl
form_back-number form.ProcessCall = refl
form_back-number form.BlockWrite = refl
form_back-number form.BlockRead = refl
form_back-number form.BlockProcessCall = refl
form_back-number form.Alert = refl

same_form : (f g : Form) → (form_number f == form_number g) ≡ true → f ≡ g
same_form f g e =
    sym (form_back-number f) ∙ (ap form_back (eqb-true (form_number f) (form_number g) e) ∙
    form_back-number g)

-- the entry that is found is one of the list, and of the form
pub found_entry : (P : Allow → Type 0) (f : Form) (code : ℕ) (allow : List Allow) (e : Allow)
    → Rattle.std.specs.List.AllByRecursion P allow → entry_of f code allow ≡ Some e
    → P e × (e.form ≡ f)
found_entry P f code [] e all is = absurd (none_some e is)
found_entry P f code (x ∷ allow) e all is = elim (cases_Bool (is_for f code x)) [
  | inl t ↦
      let same : x ≡ e =
      some_same x e (first_of (is_for f code x) x (entry_of f code allow) t is) in
      let parts = and_parts (form_number f == form_number x.form) _ t in
      (subst P same all.0, ap (λ (z : Allow). z.form) (sym same) ∙ sym (same_form f x.form parts.0))
  | inr no' ↦
      found_entry P f code allow e all.1
      (later_of (is_for f code x) x (entry_of f code allow) no' is)
]
  where
    first_of : (b : Bool) (y : Allow) (o : Option Allow) → b ≡ true → cond b (Some y) o ≡ Some e
        → Some y ≡ Some e
    first_of true y o t z = z
    first_of false y o t z = absurd (false≢true t)

    later_of : (b : Bool) (y : Allow) (o : Option Allow) → b ≡ false → cond b (Some y) o ≡ Some e
        → o ≡ Some e
    later_of false y o t z = z
    later_of true y o t z = absurd (true≢false t)

-- a row of the table that reads by a form that doesn't write, or QUERY's
reads_plainly : Option Form → Bool
reads_plainly None = true
reads_plainly (Some f) = not (writes_data f) && not (form_number f == 2)

plain_row : TableRow → Bool
plain_row r = reads_plainly r.read || r.code == query_code

plain_rows : list_all plain_row table ≡ true
unfolding table plain_row reads_plainly
plain_rows = refl

found_row : (test : TableRow → Bool) (code : ℕ) (rows : List TableRow) → list_all test rows ≡ true
    → IfSome (find (λ r. r.code == code) rows) (λ r. (test r ≡ true) × (r.code ≡ code))
found_row test code [] all = tt
found_row test code (r ∷ rows) all =
    let parts = and_parts (test r) (list_all test rows) all in
    elim (cases_Bool (r.code == code)) [
      | inl t ↦ rw t (parts.0, eqb-true r.code code t)
      | inr f ↦ rw f (found_row test code rows parts.1)
    ]

-- the forms that may write a code
abbrev pub MayWrite : Form → Type 0
MayWrite f = IsTrue (writes_data f) ⊎ (f ≡ form.SendByte)

-- a form that writes reads no code but QUERY's
no_plain_read : (f : Form) → MayWrite f → reads_plainly (Some f) ≡ true → ⊥
unfolding reads_plainly
no_plain_read f (inl w) e =
    let parts = and_parts (not (writes_data f)) (not (form_number f == 2)) e in
    true≢false (sym w ∙ not-true (writes_data f) parts.0)
no_plain_read f (inr s) e =
    let parts = and_parts (not (writes_data f)) (not (form_number f == 2)) e in
    true≢false (ap (λ (g : Form). form_number g == 2) (sym s)
    ∙ not-true (form_number f == 2) parts.1)

reads_query : (f : Form) (code : ℕ) → MayWrite f → IsTrue (is_form f (form_read code))
    → code ≡ query_code
unfolding plain_row
reads_query f code w is = by (row_of code) is (found_row plain_row code table plain_rows)
  where
    of_row : (o : Option Form) (c : ℕ) → is_form f o ≡ true
        → (reads_plainly o || c == query_code) ≡ true
        → c ≡ query_code
    of_row None c is' e = absurd (false≢true is')
    of_row (Some g) c is' e = elim (or_cases (reads_plainly (Some g)) (c == query_code) e) [
      | inl p ↦
          absurd
          (no_plain_read f w (ap (λ (z : Form). reads_plainly (Some z)) (same_form f g is') ∙ p))
      | inr q ↦ eqb-true c query_code q
    ]

    by : (o : Option TableRow) → is_form f (option_and_then (λ r. r.read) o) ≡ true
        → IfSome o (λ r. (plain_row r ≡ true) × (r.code ≡ code)) → code ≡ query_code
    by None e all = absurd (false≢true e)
    by (Some r) e all = sym all.1 ∙ of_row r.read r.code e all.0

manufacturer_writes : (f : Form) → MayWrite f
    → (is_manufacturer_form f && not (is_plain_read f)) ≡ true
manufacturer_writes (form.Quick read) (inl w) = absurd (false≢true w)
manufacturer_writes form.SendByte w = refl
manufacturer_writes form.ReceiveByte (inl w) = absurd (false≢true w)
manufacturer_writes form.WriteByte w = refl
manufacturer_writes form.WriteWord w = refl
manufacturer_writes form.ReadByte (inl w) = absurd (false≢true w)
manufacturer_writes form.ReadWord (inl w) = absurd (false≢true w)
manufacturer_writes form.ProcessCall w = refl
manufacturer_writes form.BlockWrite w = refl
manufacturer_writes form.BlockRead (inl w) = absurd (false≢true w)
manufacturer_writes form.BlockProcessCall w = refl
manufacturer_writes form.Alert (inl w) = absurd (false≢true w)
manufacturer_writes (form.Quick read) (inr e) = cc
manufacturer_writes form.ReceiveByte (inr e) = cc
manufacturer_writes form.ReadByte (inr e) = cc
manufacturer_writes form.ReadWord (inr e) = cc
manufacturer_writes form.BlockRead (inr e) = cc
manufacturer_writes form.Alert (inr e) = cc

-- what is guarded and written counts as a write
pub guarded_write : (code : ℕ) (f : Form) → IsTrue (is_guarded code) → IsTrue (takes_form code f)
    → MayWrite f → IsTrue (counts_as_write code f)
guarded_write code f guarded takes w = elim (cases_Bool (is_manufacturer code)) [
  | inl m ↦ rw m (manufacturer_writes f w)
  | inr n ↦
      rw n (by (or_cases (is_form f (form_written code)) (is_form f (form_read code)) (named n)))
]
  where
    unguarded : (code == clear_faults_code || code == query_code) ≡ false
    unguarded = not-true (code == clear_faults_code || code == query_code) guarded

    named : is_manufacturer code ≡ false
        → (is_form f (form_written code) || is_form f (form_read code)) ≡
        true
    named n = rw n at takes

    cleared : (x y : Bool) → (x || y) ≡ false → (x ≡ false) × (y ≡ false)
    cleared false y e = (refl, e)
    cleared true y e = absurd (true≢false e)

    by : (is_form f (form_written code) ≡ true) ⊎ (is_form f (form_read code) ≡ true)
        → (is_form f (form_written code) && not (code == clear_faults_code)) ≡ true
    by (inl written) =
        rw (written, (cleared (code == clear_faults_code) (code == query_code) unguarded).0)
        refl
    by (inr read) =
        let query : code ≡ query_code = reads_query f code w read in
        absurd
        (true≢false (ap (λ c. c == query_code) (sym query) ∙ (cleared (code == clear_faults_code)
        (code == query_code) unguarded).1))
