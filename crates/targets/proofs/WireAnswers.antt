-- What fits a message are bytes on the wire.
use Rattle.std.proofs.Common.{◌≡◌, ◌≢◌, ◌≤◌, ◌<◌, ◌==◌, inl, inr, ℕ, zero, suc, Bool, true, false}
use Rattle.std.proofs.Common.{Option, Some, None, List, [], ◌∷◌, length, slice_get, slice_index}
use Rattle.std.proofs.Common.{All, if◌then◌else◌, refl, sym, ap, subst, ◌∙◌, arith, nat_lt}
use Rattle.std.specs.List.{AllByRecursion}
use Rattle.std.specs.Option.{option_and_then}
use Rattle.std.proofs.lemmas.Bool.{cases_Bool, cases_lt, eqb-true, eq-eqb}
use Rattle.std.proofs.lemmas.Bool.Decides.{nat_tests}
use Rattle.std.proofs.lemmas.List.Elements.{All-from_recursion, recursion_from_All}
use Rattle.std.proofs.lemmas.Option.{slice_get_within}
use Rattle.smbus.specs.declared.message.Form.{Form}
use Rattle.smbus.specs.declared.message.Form.TheVariants as form
use Rattle.smbus.specs.Asked.{Asked}
use Rattle.smbus.specs.Answered.{Answered}
use Rattle.wires.specs.ArbitrationLaws.{LeastByteWins}
use Rattle.wires.specs.Arbitration.{wire_byte}
use Rattle.pmbus_table.specs.Codes.{page_code, write_protect_code}
use Rattle.pmbus_table.specs.Protect.{is_protection}
use Rattle.board.specs.declared.entry.Range.{Range}
use Rattle.board.specs.Boards.{Target, Board, place_of}
use Rattle.board.specs.Valid.{has_words, full_values, is_page_value, IsTarget, IsBoard}
use Rattle.targets.specs.States.{BusState, Belongs}
use Rattle.targets.specs.Alerting.{alert_bytes}
use Rattle.targets.specs.Fitting.{IsIn, values_for, IsStoredBy, FitsRead, FitsBlock}
use Rattle.targets.specs.Fitting.{FitsAlert, ReadsNothing, FitsForm}
use Rattle.targets.specs.WireLaws.{IsOnWire, FittingBytesAreOnWire}
use Rattle.targets.proofs.Answering.{values_within}
use Rattle.targets.proofs.AlertBytes.{wire_small}
use Rattle.targets.proofs.SomeAnswerLaw.{inside}

no_bytes : (bytes : List ℕ) → bytes ≡ [] → All (λ byte. byte < 256) bytes
no_bytes bytes e = rw e (All-from_recursion (λ byte. byte < 256) [] tt)

nothing : (a : Answered) → ReadsNothing a → IsOnWire a
nothing a reads =
    let none : a.value ≡ 0 = reads.value in
    record { value = omega (arith, none); read = no_bytes a.bytes reads.bytes }

-- words at most
full_word : (f : Form) → (full_values f).high ≤ 65535
full_word f = by (has_words f)
  where
    by : (words : Bool) → (if words then 65535 else 255) ≤ 65535
    by true = omega arith
    by false = omega arith

in_word : (b : Board) (m : Asked) (value : ℕ) → IsBoard b → IsIn (values_for b m) value
    → value < 65536
in_word b m value is fits =
    let below : (values_for b m).high ≤ (full_values m.form).high = (values_within b m is).below in
    let high : (full_values m.form).high ≤ 65535 = full_word m.form in
    let le : value ≤ (values_for b m).high = fits.below in
    omega (arith, below, high, le)

bytes_in : (r : Range) (bytes : List ℕ) → r.high ≤ 255 → AllByRecursion (IsIn r) bytes
    → AllByRecursion (λ byte. byte < 256) bytes
bytes_in r [] high all = tt
bytes_in r (x ∷ bytes) high all =
    let le : x ≤ r.high = all.0.below in
    (omega (arith, high, le), bytes_in r bytes high all.1)

narrow : (words : Bool) (n : ℕ) → words ≡ false → n ≤ (if words then 65535 else 255) → n ≤ 255
narrow true n e le = cc
narrow false n e le = le

block_bytes : (b : Board) (m : Asked) (written : ℕ) (bytes : List ℕ) → IsBoard b
    → has_words m.form ≡ false → FitsBlock b m written bytes → All (λ byte. byte < 256) bytes
block_bytes b m written bytes is bytewise fits =
    let high : (values_for b m).high ≤ 255 =
    narrow (has_words m.form) (values_for b m).high bytewise (values_within b m is).below in
    All-from_recursion (λ byte. byte < 256) bytes (bytes_in (values_for b m) bytes high
    (recursion_from_All (IsIn (values_for b m)) bytes fits.each))

-- what a target stores is a byte
page_small : (pages value : ℕ) → pages ≤ 32 → is_page_value pages value ≡ true → value < 65536
page_small pages value few is = elim (cases_Bool (nat_lt value pages)) [
  | inl t ↦ grind (arith, nat_tests)
  | inr f ↦
      let all : (value == 0xFF) ≡ true = rw f at is in
      let same : value ≡ 0xFF = eqb-true value 0xFF all in
      omega (arith, same)
]

no_protection : (value : ℕ) → 65536 ≤ value → is_protection value ≡ true → ⊥
no_protection value le is =
    let a : (value == 0x80) ≡ false = other value 0x80 (omega arith) le in
    let b : (value == 0x40) ≡ false = other value 0x40 (omega arith) le in
    let c : (value == 0x20) ≡ false = other value 0x20 (omega arith) le in
    let d : (value == 0x00) ≡ false = other value 0x00 (omega arith) le in
    let bad : false ≡ true = rw (a, b, c, d) at is in
    cc
  where
    other : (x y : ℕ) → y < 65536 → 65536 ≤ x → (x == y) ≡ false
    other x y lt le = grind (arith, nat_tests)

protect_small : (value : ℕ) → is_protection value ≡ true → value < 65536
protect_small value is = elim (cases_lt value 65536) [
  | inl lt ↦ lt
  | inr le ↦ absurd (no_protection value le is)
]

-- an element that is there is the one of its index
indexed : (xs : List ℕ) (i x : ℕ) → slice_get xs i ≡ Some x → slice_index xs i ≡ x
indexed [] i x e = cc
indexed (y ∷ xs) zero x e = cc
indexed (y ∷ xs) (suc i) x e = indexed xs i x e

target_there : (ts : List Target) (i : ℕ) → i < length ts
    → (t : Target) × (slice_get ts i ≡ Some t)
target_there [] i lt = absurd (omega (arith, lt))
target_there (t ∷ ts) zero lt = (t, refl)
target_there (t ∷ ts) (suc i) lt =
    let within : i < length ts = omega (arith, lt) in
    target_there ts i within

-- where something is stored, there is its index
stored_at : (o : Option ℕ) (stored : List ℕ) (value : ℕ)
    → option_and_then (slice_get stored) o ≡ Some value
    → (i : ℕ) × (slice_get stored i ≡ Some value)
stored_at None stored value e = cc
stored_at (Some i) stored value e = (i, e)

page_stored : (b : Board) (s : BusState) (m : Asked) (value : ℕ) → IsBoard b → Belongs b s
    → IsStoredBy b s.page m value → value < 65536
page_stored b s m value is belongs stored =
    let at = stored_at (place_of b m) s.page value stored in
    let within : at.0 < length b.targets =
    subst (λ (n : ℕ). at.0 < n) belongs.pages (slice_get_within s.page at.0 value at.1) in
    let t = target_there b.targets at.0 within in
    let may = (belongs.targets at.0 t.0 t.1).page_valid in
    let same : slice_index s.page at.0 ≡ value = indexed s.page at.0 value at.1 in
    page_small t.0.pages value ((inside b.targets at.0 t.0 t.1).1
    (recursion_from_All IsTarget b.targets is.targets)).few_pages
    (rw same at may)

protect_stored : (b : Board) (s : BusState) (m : Asked) (value : ℕ) → Belongs b s
    → IsStoredBy b s.protect m value → value < 65536
protect_stored b s m value belongs stored =
    let at = stored_at (place_of b m) s.protect value stored in
    let within : at.0 < length b.targets =
    subst (λ (n : ℕ). at.0 < n) belongs.protects (slice_get_within s.protect at.0 value at.1) in
    let t = target_there b.targets at.0 within in
    let may = (belongs.targets at.0 t.0 t.1).protect_valid in
    let same : slice_index s.protect at.0 ≡ value = indexed s.protect at.0 value at.1 in
    protect_small value (rw same at may)

read_small : (b : Board) (s : BusState) (m : Asked) (value : ℕ) → IsBoard b → Belongs b s
    → FitsRead b s m value → value < 65536
read_small b s m value is belongs fits = elim (cases_Bool (m.code == page_code)) [
  | inl page ↦ page_stored b s m value is belongs (fits.page (eqb-true m.code page_code page))
  | inr other ↦
      elim (cases_Bool (m.code == write_protect_code)) [
        | inl protect ↦
            protect_stored b s m value belongs
            (fits.protect (eqb-true m.code write_protect_code protect))
        | inr neither ↦
            in_word b m value is
            (fits.other (apart m.code page_code other) (apart m.code write_protect_code neither))
      ]
]
  where
    apart : (x y : ℕ) → (x == y) ≡ false → x ≢ y
    apart x y e same =
        let is : (x == y) ≡ true = eq-eqb x y same in
        let bad : true ≡ false = sym is ∙ e in
        cc

alert_small : LeastByteWins → (b : Board) (s : BusState) (a : Answered) (sent : List ℕ)
    → alert_bytes b s ≡ sent
    → IsBoard b → FitsAlert b s a → a.value < 65536
alert_small wins b s a [] e is fits =
    let none : a.value ≡ 0 = (fits.nobody e).1 in
    omega (arith, none)
alert_small wins b s a (x ∷ later) e is fits =
    let value : a.value ≡ wire_byte (alert_bytes b s) =
    (fits.somebody (λ none. let bad : x ∷ later ≡ [] = sym e ∙ none in cc)).1 in
    let small : wire_byte (alert_bytes b s) < 65536 = wire_small wins b s x later is e in
    omega (arith, value, small)

number : (a : Answered) → a.value < 65536 → a.bytes ≡ [] → IsOnWire a
number a small none = record { value = small; read = no_bytes a.bytes none }

block : (b : Board) (m : Asked) (a : Answered) (written : ℕ) → IsBoard b → has_words m.form ≡ false
    → FitsBlock b m written a.bytes → a.value ≡ 0 → IsOnWire a
block b m a written is bytewise fits none =
    record { value = omega (arith, none); read = block_bytes b m written a.bytes is bytewise fits }

by_form : LeastByteWins → (b : Board) (s : BusState) (m : Asked) (a : Answered) (f : Form)
    → m.form ≡ f → IsBoard b
    → Belongs b s → FitsForm f b s m a → IsOnWire a
by_form wins b s m a (form.Quick r) e is belongs fits = nothing a fits
by_form wins b s m a form.SendByte e is belongs fits = nothing a fits
by_form wins b s m a form.WriteByte e is belongs fits = nothing a fits
by_form wins b s m a form.WriteWord e is belongs fits = nothing a fits
by_form wins b s m a form.BlockWrite e is belongs fits = nothing a fits
by_form wins b s m a form.ReadByte e is belongs fits =
    number a (read_small b s m a.value is belongs fits.0) fits.1
by_form wins b s m a form.ReceiveByte e is belongs fits =
    number a (in_word b m a.value is fits.0) fits.1
by_form wins b s m a form.ReadWord e is belongs fits =
    number a (in_word b m a.value is fits.0) fits.1
by_form wins b s m a form.ProcessCall e is belongs fits =
    number a (in_word b m a.value is fits.0) fits.1
by_form wins b s m a form.BlockRead e is belongs fits =
    block b m a 0 is (ap has_words e) fits.0 fits.1
by_form wins b s m a form.BlockProcessCall e is belongs fits =
    block b m a (length m.out) is (ap has_words e) fits.0 fits.1
by_form wins b s m a form.Alert e is belongs fits =
    number a (alert_small wins b s a (alert_bytes b s) refl is fits.0) fits.1

pub fitting_bytes : LeastByteWins → FittingBytesAreOnWire
fitting_bytes wins b s m a is belongs fits = by_form wins b s m a m.form refl is belongs fits
