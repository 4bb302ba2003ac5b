-- How many bytes and slots a frame has, as the code counts them. The public `sent_count` names one
-- of them, `controller_count`, and beside it what that counts: the bytes sent by `Protocol`.
use Rattle.std.specs.Prelude.{ℕ, ◌+◌, ◌*◌, nat_lt, if◌then◌else◌, Option, Some, None, length}
use Rattle.smbus.specs.declared.message.Form.{Form}
use Rattle.smbus.specs.Asked.{Asked}
use Rattle.smbus.specs.Answered.{Answered}
use Rattle.smbus.specs.Parts.{first_bytes, has_repeat, returned_bytes}

abbrev pub repeat_count : Form → ℕ
repeat_count form = if has_repeat form then 1 else 0

-- how many bytes the controller sends
abbrev pub controller_count : Asked → ℕ
controller_count m = length (first_bytes m) + repeat_count m.form

-- up to the refused byte, if it is one of the controller's, or all
abbrev pub bytes_up_to : Option ℕ → ℕ → ℕ → ℕ
bytes_up_to None sent returned = sent + returned
bytes_up_to (Some n) sent returned = if nat_lt n sent then n + 1 else sent + returned

abbrev pub byte_count : Asked → Answered → ℕ
byte_count m a =
    bytes_up_to a.refuse (controller_count m) (length (returned_bytes m.form a.value a.bytes))

-- nine for each byte, one for a repeated START if it goes out, and the STOP
abbrev pub slots_for : ℕ → ℕ → ℕ → ℕ
slots_for first repeats bytes = 9 * bytes + ((if nat_lt first bytes then repeats else 0) + 1)

abbrev pub slot_count : Asked → Answered → ℕ
slot_count m a = slots_for (length (first_bytes m)) (repeat_count m.form) (byte_count m a)
