-- What of a board without faults may be meant otherwise: start values with which a target doesn't
-- take what a program sends, needs in a circle, rails that nothing turns on, limits that nothing
-- breaks, other controllers that never win.
use Rattle.std.specs.Prelude.{◌≡◌, ◌<◌, ℕ, ◌+◌, min, List, [], ◌∷◌, length, slice_get}
use Rattle.std.specs.Prelude.{replicate}
use Rattle.std.specs.Prelude.{Bool, true, false, ◌==◌, ◌&&◌, ◌||◌, not, nat_le, Option, Some, None}
use Rattle.std.specs.Prelude.{option_and_then, All, IsTrue}
use Rattle.std.specs.List.{list_any, list_all}
use Rattle.std.specs.Option.{option_map_or}
use Rattle.smbus.specs.Asked.{Asked}
use Rattle.smbus.specs.FormWords.{carries_code}
use Rattle.smbus.specs.declared.message.Form.{Form}
use Rattle.smbus.specs.declared.message.Form.TheVariants as form
use Rattle.pmbus_table.specs.Codes.{page_code, operation_code, write_protect_code, all_pages}
use Rattle.pmbus_table.specs.Commands.{is_command, is_paged, form_read, counts_as_write}
use Rattle.pmbus_table.specs.Forms.{is_form}
use Rattle.pmbus_table.specs.Protect.{permits}
use Rattle.pmbus_table.specs.Operation.{enabling}
use Rattle.pmbus_table.specs.Voltage.{carries_voltage, within}
use Rattle.board.specs.declared.entry.Range.{Range}
use Rattle.board.specs.Boards.{Allow, Target, Rail, Board, entry_of}
use Rattle.seq_program.specs.declared.instr.Instr.{Instr}
use Rattle.seq_program.specs.Messages.{alert_message, message_of}

abbrev pub has : Range → ℕ → Bool
has r value = nat_le r.low value && nat_le value r.high

abbrev pub is_among : List ℕ → ℕ → Bool
is_among values value = list_any (λ v. v == value) values

-- an entry takes some value of OPERATION that enables (PMBus 1.3 Part II, 12.1)
abbrev pub takes_enable : Allow → Bool
takes_enable a = list_any (has a.values) enabling

abbrev pub may_enable : Target → Bool
may_enable t = option_map_or takes_enable (entry_of form.WriteByte operation_code t.allow) false

-- PAGE of a target may come to be a page, or all pages
abbrev pub takes_page : ℕ → Allow → Bool
takes_page page a = has a.values page || has a.values all_pages

abbrev pub may_select : Target → ℕ → Bool
may_select t page =
    (is_among t.start_pages page || is_among t.start_pages all_pages)
    || option_map_or (takes_page page) (entry_of form.WriteByte page_code t.allow) false

-- no entry of its target can turn a rail on
abbrev pub is_idle : Target → Rail → Bool
is_idle t r = not (may_enable t && may_select t r.page)

abbrev pub writes_word : Form → Bool
writes_word form.WriteWord = true
writes_word other = false

-- an entry takes voltages
abbrev pub takes_voltage : Allow → Bool
takes_voltage a = writes_word a.form && carries_voltage a.code

-- the greatest value of an entry and the next one are within a limit of a target
abbrev pub stays_within : Target → ℕ → Allow → Bool
stays_within t limit a = within (min 65535 (a.values.high + 1)) t.exponent limit

abbrev pub stay_within : Target → ℕ → Bool
stay_within t limit = list_all (λ a. not (takes_voltage a) || stays_within t limit a) t.allow

-- no voltage that its target takes breaks a rail's limit; a range that ends just there is meant so
abbrev pub is_loose : Target → Rail → Bool
is_loose t r = list_any takes_voltage t.allow && stay_within t r.limit_uv

abbrev pub joined : Option Asked → List Asked → List Asked
joined None ms = ms
joined (Some m) ms = m ∷ ms

-- the message of a place of a program, with 0 in the registers
abbrev pub message_at : Board → List Instr → ℕ → Option Asked
message_at b p place = option_and_then (λ i. message_of b i (replicate 8 0)) (slice_get p place)

-- the messages that a program may send to the targets of a board
abbrev pub sent_by : Board → List Instr → List Asked
sent_by b [] = []
sent_by b (i ∷ later) = joined (message_of b i (replicate 8 0)) (sent_by b later)

-- a message writes a byte to a command of a target
abbrev pub writes_byte : Form → Bool
writes_byte form.WriteByte = true
writes_byte other = false

abbrev pub is_write_of : Target → ℕ → Asked → Bool
is_write_of t code m = m.address == t.address && (writes_byte m.form && m.code == code)

-- a message carries a command to a target
abbrev pub carries_to : Target → Asked → Bool
carries_to t m = m.address == t.address && (carries_code m.form && is_command m.code)

-- a message to a target is a write that a value of WRITE_PROTECT forbids
abbrev pub is_forbidden : Target → ℕ → Asked → Bool
is_forbidden t protect m =
    carries_to t m && (counts_as_write m.code m.form
    && option_map_or not (permits protect m.code) false)

-- a message reads what a page of a target has
abbrev pub is_read_of_page : Target → Asked → Bool
is_read_of_page t m =
    carries_to t m && (is_paged m.code && is_form m.form (form_read m.code))

-- PAGE of a target may stand for all pages at the start, and a page is read, with no write of PAGE
abbrev pub starts_at_all_pages : List Asked → Target → Bool
starts_at_all_pages ms t =
    not (list_any (is_write_of t page_code) ms)
    && (is_among t.start_pages all_pages && list_any (is_read_of_page t) ms)

-- WRITE_PROTECT of a target may forbid what is written, and isn't written itself
abbrev pub starts_protected : List Asked → Target → Bool
starts_protected ms t =
    not (list_any (is_write_of t write_protect_code) ms)
    && list_any (λ protect. list_any (is_forbidden t protect) ms) t.start_protects

abbrev pub is_idle_rail : Board → Rail → Bool
is_idle_rail b r = option_map_or (λ t. is_idle t r) (slice_get b.targets r.target) false

abbrev pub is_loose_rail : Board → Rail → Bool
is_loose_rail b r = option_map_or (λ t. is_loose t r) (slice_get b.targets r.target) false

-- the lower address wins (UM10204, 3.1.8): no target's is over this one, nor the alert response's
abbrev pub never_wins : Board → ℕ → Bool
never_wins b address =
    list_all (λ t. nat_le t.address address) b.targets && nat_le alert_message.address address

abbrev pub has_foreign : Board → Bool
has_foreign b = not (length b.foreign == 0)

-- a set of rails takes in each rail whose needs are all in it
abbrev pub TakesIn : Board → (ℕ → Bool) → Type 0
TakesIn b s =
    (d : ℕ) (r : Rail) → slice_get b.rails d ≡ Some r → All (λ n. IsTrue (s n)) r.needs
    → IsTrue (s d)

-- a rail can come good, one after another, without one that has to be good before its own needs: it
-- is in each such set
abbrev pub CanComeGood : Board → ℕ → Type 0
CanComeGood b d = (s : ℕ → Bool) → TakesIn b s → IsTrue (s d)

abbrev pub AllCanComeGood : Board → Type 0
AllCanComeGood b = (d : ℕ) → d < length b.rails → CanComeGood b d
