-- An answer for each message.
use Rattle.std.proofs.Common.{◌≡◌, ◌≤◌, ◌&&◌, ◌||◌, ◌==◌, inl, inr, ℕ, zero, suc, Bool, true, false}
use Rattle.std.proofs.Common.{Option, Some, None, List, [], ◌∷◌, refl, sym, ap, ◌∙◌, IfSome}
use Rattle.std.proofs.Common.{slice_get, unwrap_or, option_map, if◌then◌else◌, arith, find}
use Rattle.std.specs.List.{AllByRecursion}
use Rattle.std.specs.Option.{option_and_then}
use Rattle.std.proofs.lemmas.Bool.{cases_Bool}
use Rattle.std.proofs.lemmas.Bool.Decides.{nat_tests}
use Rattle.std.proofs.lemmas.List.Elements.{recursion_from_All}
use Rattle.smbus.specs.declared.message.Form.{Form}
use Rattle.smbus.specs.declared.message.Form.TheVariants as form
use Rattle.smbus.specs.Asked.{Asked}
use Rattle.pmbus_table.specs.Forms.{form_number}
use Rattle.board.specs.declared.entry.Range.{Range}
use Rattle.board.specs.Boards.{Allow, Board, is_for, entry_of, place_of, target_of, entry_for}
use Rattle.board.specs.Valid.{IsWithin, IsEntry, IsTarget, IsBoard, has_words, full_values}
use Rattle.board.specs.Valid.{full_length}
use Rattle.targets.specs.Fitting.{values_for, lengths_for}

-- forms with one number have the same values
abbrev words_at : ℕ → Bool
words_at n = (n == 5) || ((n == 7) || (n == 8))

words_by_number : (f : Form) → has_words f ≡ words_at (form_number f)
words_by_number (form.Quick true) = refl
words_by_number (form.Quick false) = refl
words_by_number form.SendByte = refl
words_by_number form.ReceiveByte = refl
words_by_number form.WriteByte = refl
words_by_number form.WriteWord = refl
words_by_number form.ReadByte = refl
words_by_number form.ReadWord = refl
words_by_number form.ProcessCall = refl
words_by_number form.BlockWrite = refl
words_by_number form.BlockRead = refl
words_by_number form.BlockProcessCall = refl
words_by_number form.Alert = refl

same_words : (f g : Form) → form_number f ≡ form_number g → has_words f ≡ has_words g
same_words f g e = words_by_number f ∙ (ap words_at e ∙ sym (words_by_number g))

-- what holds of a value that was found

and_then : {X Y : Type 0} (P : X → Type 0) (Q : Y → Type 0) (f : X → Option Y) (o : Option X)
    → IfSome o P → ((x : X) → P x → IfSome (f x) Q) → IfSome (option_and_then f o) Q
and_then P Q f None p q = tt
and_then P Q f (Some x) p q = q x p

got : {X : Type 0} (P : X → Type 0) (xs : List X) (i : ℕ) → AllByRecursion P xs
    → IfSome (slice_get xs i) P
got P [] i all = tt
got P (x ∷ xs) zero all = all.0
got P (x ∷ xs) (suc i) all = got P xs i all.1

first_passing : {X : Type 0} (P : X → Type 0) (p : X → Bool) (xs : List X) → AllByRecursion P xs
    → IfSome (find p xs) (λ x. P x × (p x ≡ true))
first_passing P p [] all = tt
first_passing P p (x ∷ xs) all =
    elim (cases_Bool (p x)) [ inl t ↦ rw t (all.0, t) | inr f ↦ rw f (first_passing P p xs all.1) ]

anywhere : {X : Type 0} (P : X → Type 0) (o : Option X) → ((x : X) → P x) → IfSome o P
anywhere P None all = tt
anywhere P (Some x) all = all x

-- an entry that allows the message
record IsEntryFor (f : Form) (e : Allow) : Type 0 where
  entry : IsEntry e
  words : has_words e.form ≡ has_words f

and_first : (a b : Bool) → (a && b) ≡ true → a ≡ true
and_first true b e = refl
and_first false b e = e

is_entry_for : (f : Form) (code : ℕ) (e : Allow) → IsEntry e × (is_for f code e ≡ true)
    → IsEntryFor f e
is_entry_for f code e both =
    let n : form_number e.form ≡ form_number f = grind (arith, nat_tests) in
    record { entry = both.0; words = same_words e.form f n }

entry_is : (b : Board) (m : Asked) → IsBoard b → IfSome (entry_for b m) (IsEntryFor m.form)
entry_is b m is =
    and_then IsTarget (IsEntryFor m.form) (λ t. entry_of m.form m.code t.allow) (target_of b m)
    (and_then (λ (i : ℕ). Unit {0}) IsTarget (slice_get b.targets) (place_of b m)
    (anywhere (λ (i : ℕ). Unit {0}) (place_of b m) (λ i. tt))
    (λ i u. got IsTarget b.targets i (recursion_from_All IsTarget b.targets is.targets)))
    (λ t it. weaken (find (is_for m.form m.code) t.allow) (first_passing IsEntry
    (is_for m.form m.code) t.allow (recursion_from_All IsEntry t.allow it.entries)))
  where
    weaken : (o : Option Allow) → IfSome o (λ e. IsEntry e × (is_for m.form m.code e ≡ true))
        → IfSome o (IsEntryFor m.form)
    weaken None p = tt
    weaken (Some e) p = is_entry_for m.form m.code e p

-- so its ranges are not empty, and within those of the form

full_within : (f : Form) → IsWithin (full_values f) (full_values f)
full_within f = record { above = omega arith; nonempty = omega arith; below = omega arith }

length_within : IsWithin full_length full_length
length_within = record { above = omega arith; nonempty = omega arith; below = omega arith }

along_words : (f g : Form) (r : Range) → has_words f ≡ has_words g → IsWithin (full_values f) r
    → IsWithin (full_values g) r
along_words f g r e w =
    let below : r.high ≤ (if has_words f then 65535 else 255) = w.below in
    record { above = w.above; nonempty = w.nonempty; below = rw e at below }

by_entry : (f : Form) (o : Option Allow) → IfSome o (IsEntryFor f)
    → IsWithin (full_values f) (unwrap_or (option_map (λ e. e.values) o) (full_values f))
    × IsWithin full_length (unwrap_or (option_map (λ e. e.length) o) full_length)
by_entry f None p = (full_within f, length_within)
by_entry f (Some e) p = (along_words e.form f e.values p.words p.entry.in_values, p.entry.in_length)

pub values_within : (b : Board) (m : Asked) → IsBoard b
    → IsWithin (full_values m.form) (values_for b m)
values_within b m is = (by_entry m.form (entry_for b m) (entry_is b m is)).0

pub lengths_within : (b : Board) (m : Asked) → IsBoard b → IsWithin full_length (lengths_for b m)
lengths_within b m is = (by_entry m.form (entry_for b m) (entry_is b m is)).1
