-- Names and codes of commands belong to each other, by tests over the whole table.
use Rattle.std.proofs.Common.{◌≡◌, ℕ, ◌<◌, List, [], ◌∷◌, length, Bool, true, false, ◌&&◌, ◌||◌}
use Rattle.std.proofs.Common.{not, ◌==◌, nat_lt, Option, Some, None, IfSome, IsTrue, is_some}
use Rattle.std.proofs.Common.{option_map, option_and_then, if◌then◌else◌, find, unwrap_or, refl}
use Rattle.std.proofs.Common.{sym, ap, ◌∙◌, inl, inr, rules, arith}
use Rattle.std.specs.List.{list_all}
use Rattle.std.specs.Str.{bytes_eq}
use Rattle.std.proofs.lemmas.Bool.{cases_Bool}
use Rattle.std.proofs.lemmas.Bool.Decides.{nat_tests}
use Rattle.std.proofs.lemmas.Slice.Eq.{bytes_eq-Decides}
use Rattle.texts.specs.Hex.{pair_text}
use Rattle.texts.specs.ReadBack.{PairsReadBack}
use Rattle.pmbus_table.specs.Table.{Row, table, row_of, row_named}
use Rattle.pmbus_table.specs.Commands.{is_manufacturer, is_command, name_text, command_in}
use Rattle.pmbus_table.specs.Commands.{command_named, command_at}
use Rattle.pmbus_table.specs.NameLaws.{NamesReadBack}

-- what a search finds passes its test, and each test that all rows pass
record Found (p q : Row → Bool) (r : Row) : Type 0 where
  here : p r ≡ true
  there : q r ≡ true

both : (a b : Bool) → (a && b) ≡ true → (a ≡ true) × (b ≡ true)
both true true t = (refl, refl)
both true false t = cc
both false b t = cc

found_in : (p q : Row → Bool) (rows : List Row) → list_all q rows ≡ true
    → IfSome (find p rows) (Found p q)
found_in p q [] t = tt
found_in p q (r ∷ rows) t = elim (cases_Bool (p r)) [
  | inl h ↦ rw h (record { here = h; there = (both (q r) _ t).0 })
  | inr f ↦ rw f (found_in p q rows (both (q r) _ t).1)
]

found_row : (p q : Row → Bool) (rows : List Row) (r : Row) → list_all q rows ≡ true
    → find p rows ≡ Some r → Found p q r
found_row p q rows r t e = let h = found_in p q rows t in rw e at h

-- the row that is found has this code
abbrev has_code : Option Row → ℕ → Bool
has_code None c = false
has_code (Some r) c = r.code == c

-- what each row passes
abbrev is_fit : Row → Bool
is_fit r =
    (is_command r.code && not (is_manufacturer r.code)) && (bytes_eq (name_text r.code) r.name
    && (has_code (row_named r.name) r.code && nat_lt 2 (length r.name)))

all_fit : list_all is_fit table ≡ true
unfolding table
all_fit = refl

record Fit (r : Row) : Type 0 where
  command : is_command r.code ≡ true
  named : is_manufacturer r.code ≡ false
  name : name_text r.code ≡ r.name
  code : has_code (row_named r.name) r.code ≡ true
  long : 2 < length r.name

same_text : (a b : List ℕ) → bytes_eq a b ≡ true → a ≡ b
same_text a b t = search (rules, bytes_eq-Decides)

not_true : (b : Bool) → not b ≡ true → b ≡ false
not_true true t = cc
not_true false t = refl

fit : (r : Row) → is_fit r ≡ true → Fit r
fit r t =
    let front = both (is_command r.code && not (is_manufacturer r.code)) _ t in
    let kinds = both (is_command r.code) _ front.0 in
    let back = both (bytes_eq (name_text r.code) r.name) _ front.1 in
    let last = both (has_code (row_named r.name) r.code) _ back.1 in
    record {
      command = kinds.0;
      named = not_true _ kinds.1;
      name = same_text _ _ back.0;
      code = last.0;
      long = grind (arith, nat_tests, last.1);
    }

-- the row of a code
row_at : (code : ℕ) (r : Row) → row_of code ≡ Some r → (r.code ≡ code) × Fit r
row_at code r e =
    let f = found_row (λ r. r.code == code) is_fit table r all_fit e in
    (grind (arith, nat_tests, f.here), fit r f.there)

-- the row of a name
row_by : (name : List ℕ) (r : Row) → row_named name ≡ Some r → (r.name ≡ name) × Fit r
row_by name r e =
    let f = found_row (λ r. bytes_eq r.name name) is_fit table r all_fit e in
    (same_text r.name name f.here, fit r f.there)

clash : (b : Bool) → b ≡ true → b ≡ false → ⊥
clash true t f = cc
clash false t f = cc

-- a manufacturer command has no row
no_row : (code : ℕ) (o : Option Row) → row_of code ≡ o → is_manufacturer code ≡ true → o ≡ None
no_row code None e m = refl
no_row code (Some r) e m =
    let h = row_at code r e in
    absurd (clash (is_manufacturer r.code) (rw h.0 m) h.1.named)

-- two digits are no name
no_name : (code : ℕ) (o : Option Row) → row_named (pair_text code) ≡ o → o ≡ None
no_name code None e = refl
no_name code (Some r) e =
    let h = row_by (pair_text code) r e in
    let two : length r.name ≡ 2 = ap length h.0 in
    let more : 2 < length r.name = h.1.long in
    absurd (omega arith)

pub text_of_digits : (code : ℕ) → is_manufacturer code ≡ true → name_text code ≡ pair_text code
text_of_digits code m =
    ap (λ (o : Option Row). unwrap_or (option_map (λ r. r.name) o) (pair_text code))
    (no_row code (row_of code) refl m)

-- a row's name names its code
code_in : (c : ℕ) (name : List ℕ) (o : Option Row) → has_code o c ≡ true
    → command_in name o ≡ Some c
code_in c name None t = cc
code_in c name (Some r) t = ap Some (grind (arith, nat_tests))

row_back : (c : ℕ) (o : Option Row) → row_of c ≡ o → is_some o ≡ true
    → command_named (name_text c) ≡ Some c
row_back c None e s = cc
row_back c (Some r) e s =
    let h = row_at c r e in
    let text : name_text c ≡ r.name =
    ap (λ (o : Option Row). unwrap_or (option_map (λ r. r.name) o) (pair_text c)) e in
    ap command_named text ∙ code_in r.code r.name (row_named r.name) h.1.code ∙ ap Some h.0

digits_back : PairsReadBack → (c : ℕ) → is_manufacturer c ≡ true
    → command_named (pair_text c) ≡ Some c
digits_back pairs c m =
    let small : c < 256 = grind (arith, nat_tests) in
    let read = λ (o : Option ℕ).
    option_and_then (λ code. if is_manufacturer code then Some code else None) o in
    ap (command_in (pair_text c)) (no_name c (row_named (pair_text c)) refl)
    ∙ ap read (pairs c small) ∙ rw m refl

some_or_digits : (a b : Bool) → (a || b) ≡ true → a ≡ false → b ≡ true
some_or_digits true b t f = cc
some_or_digits false b t f = t

-- a named command's name names it
named_back : (c : ℕ) → is_command c ≡ true → is_manufacturer c ≡ false
    → command_named (name_text c) ≡ Some c
named_back c t f =
    row_back c (row_of c) refl (some_or_digits (is_manufacturer c) (is_some (row_of c)) t f)

pub command_named-name_text : PairsReadBack → NamesReadBack
command_named-name_text pairs c t = elim (cases_Bool (is_manufacturer c)) [
  | inl m ↦ ap command_named (text_of_digits c m) ∙ digits_back pairs c m
  | inr f ↦ named_back c t f
]

-- the row of a name has a command's code
pub row_command : (name : List ℕ) (r : Row) → Some r ≡ row_named name
    → command_at r.code ≡ command_named name
row_command name r e =
    let h = row_by name r (sym e) in
    (rw h.1.command refl) ∙ ap (command_in name) e

-- what a look-up returned: the command of the name's row
pub row_spelled : (name : List ℕ) (r : Row) (o : Option ℕ) → Some r ≡ row_named name
    → o ≡ command_named name → IfSome o (λ c. name ≡ name_text c)
row_spelled name r o e read =
    let h = row_by name r (sym e) in
    let found : o ≡ Some r.code = read ∙ ap (command_in name) (sym e) in
    rw found (sym (h.1.name ∙ h.0))

none_some : {X : Type 0} (x : X) → None ≡ Some x → ⊥
none_some x e = cc

pub row_only : (name : List ℕ) (r : Row) (o : Option ℕ) → Some r ≡ row_named name
    → o ≡ command_named name → (c : ℕ) → IsTrue (is_command c) → name ≡ name_text c → o ≡ Some c
row_only name r o e read c t p = elim (cases_Bool (is_manufacturer c)) [
  | inl m ↦
      let none = no_name c (row_named (pair_text c)) refl in
      let there = ap row_named (p ∙ text_of_digits c m) in
      absurd (none_some r (sym none ∙ sym there ∙ sym e))
  | inr f ↦ read ∙ ap command_named p ∙ named_back c t f
]

-- or the manufacturer command of its digits
pub digits_spelled : (name : List ℕ) (o : Option ℕ)
    → IfSome o (λ c. IsTrue (is_manufacturer c) × (name ≡ pair_text c))
    → IfSome o (λ c. name ≡ name_text c)
digits_spelled name None h = tt
digits_spelled name (Some c) h = h.1 ∙ sym (text_of_digits c h.0)

pub digits_only : (name : List ℕ) (o : Option ℕ) → o ≡ command_named name
    → ((c : ℕ) → IsTrue (is_manufacturer c) → name ≡ pair_text c → o ≡ Some c)
    → (c : ℕ) → IsTrue (is_command c) → name ≡ name_text c → o ≡ Some c
digits_only name o read digits c t p = elim (cases_Bool (is_manufacturer c)) [
  | inl m ↦ digits c m (p ∙ text_of_digits c m)
  | inr f ↦ read ∙ ap command_named p ∙ named_back c t f
]
