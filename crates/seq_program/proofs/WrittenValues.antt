-- What a write line writes fits its command.
use Rattle.std.proofs.Common.{◌≡◌, ℕ, ◌≤◌, ◌<◌, inl, inr, nat_le, ◌&&◌, List, Option, Some, None}
use Rattle.std.proofs.Common.{IfSome, IsTrue, false, option_map, option_and_then, if◌then◌else◌}
use Rattle.std.proofs.Common.{refl, ap}
use Rattle.std.specs.Option.{option_or, option_map_or}
use Rattle.std.proofs.lemmas.Bool.{cases_Bool, and_parts, leb-true}
use Rattle.smbus.specs.declared.message.Form.TheVariants as form
use Rattle.pmbus_table.specs.Commands.{takes_form, command_named}
use Rattle.pmbus_table.specs.Voltage.{carries_voltage}
use Rattle.seq_program.specs.declared.instr.Width.{Width}
use Rattle.seq_program.specs.declared.instr.Width.TheVariants as width
use Rattle.seq_program.specs.declared.instr.Written.{Written}
use Rattle.seq_program.specs.declared.instr.Written.TheVariants as written
use Rattle.seq_program.specs.CommandWords.{sized_in, form_at, width_of, names_voltage}
use Rattle.seq_program.specs.CommandWords.{manufacturer_sized}
use Rattle.seq_program.specs.Operands.{number_of, number_within}
use Rattle.seq_program.specs.MessageLines.{written_of}
use Rattle.seq_program.specs.Valid.{IsWritten}
use Rattle.seq_program.proofs.VoltageCommands.{voltage_word, voltage_width}

within_high : (low high : ℕ) (o : Option ℕ) (n : ℕ)
    → option_and_then (λ n. if nat_le low n && nat_le n high then Some n else None) o ≡ Some n
    → n ≤ high
within_high low high None n e = absurd cc
within_high low high (Some m) n e = elim (cases_Bool (nat_le low m && nat_le m high)) [
  | inl t ↦
      let same : m ≡ n = some_of (rw t at e) in
      rw (← same) (leb-true m high (and_parts (nat_le low m) (nat_le m high) t).1)
  | inr f ↦ let none : None ≡ Some n = rw f at e in absurd cc
]
  where
    some_of : {a b : ℕ} → Some a ≡ Some b → a ≡ b
    some_of e = cc

number_fits : (high : ℕ) (make : ℕ → Written) (o : Option ℕ) (value : Written)
    → Some value ≡ option_map make o → (P : Written → Type 0) → ((n : ℕ) → o ≡ Some n → P (make n))
    → P value
number_fits high make None value e P fits = absurd cc
number_fits high make (Some n) value e P fits =
    let same : value ≡ make n = cc in
    rw same (fits n refl)

abbrev sized_as : ℕ → Width → Option (ℕ × Width)
sized_as command w = Some (command, w)

first_same : (a b : ℕ) (x y : Width) → sized_as a x ≡ sized_as b y → a ≡ b
first_same a b x y e = ap command_at e
  where
    command_at : Option (ℕ × Width) → ℕ
    command_at None = 0
    command_at (Some sized) = sized.0

-- a word that names what sets a voltage is sized to that
sized_voltage : (named : Option ℕ) (other : Option (ℕ × Width)) (command : ℕ) (w : Width)
    → IsTrue (option_map_or carries_voltage named false)
    → Some (command, w)
    ≡ option_or (option_and_then (λ c.
    option_map (λ size. (c, size)) (width_of form.WriteByte form.WriteWord c)) named) other
    → IsTrue (carries_voltage command)
sized_voltage None other command w names sized = absurd cc
sized_voltage (Some c) other command w names sized =
    let both : Some (command, w) ≡ Some (c, width.Word) = rw (voltage_width c names) at sized in
    let same : command ≡ c = first_same command c w width.Word both in
    rw same names

pub written_fits : (command : ℕ) (w : Width) (source : Option ℕ) (name text : List ℕ)
    (value : Written)
    → IsTrue (takes_form command (form_at form.WriteByte form.WriteWord w))
    → Some (command, w) ≡ sized_in form.WriteByte form.WriteWord name
    → IfSome source (λ r. IsTrue (names_voltage name) × (r < 8))
    → Some value ≡ written_of w source text → IsWritten command value
unfolding written_of
written_fits command w (Some r) name text value taken sized h e =
    let same : value ≡ written.Register r = cc in
    let sets : IsTrue (carries_voltage command) =
    sized_voltage (command_named name) (manufacturer_sized name) command w h.0 sized in
    rw same (voltage_word command sets, sets, h.1)
written_fits command width.Byte None name text value taken sized h e =
    number_fits 255 written.Byte (number_within 0 255 text) value e (IsWritten command)
    (λ n k. (taken, within_high 0 255 (number_of text) n k))
written_fits command width.Word None name text value taken sized h e =
    number_fits 65535 written.Word (number_within 0 65535 text) value e (IsWritten command)
    (λ n k. (taken, within_high 0 65535 (number_of text) n k))
