-- The messages that a program sends which brings up the rails of a board, and the first that no
-- entry permits.
use Rattle.std.specs.Prelude.{◌≡◌, ℕ, List, [], ◌∷◌, ◌++◌, Bool, true, false, ◌||◌, nat_lt, map}
use Rattle.std.specs.Prelude.{Option, Some, None, unwrap_or, slice_get, find, flat_map}
use Rattle.std.specs.Prelude.{if◌then◌else◌}
use Rattle.smbus.specs.declared.message.Form.{Form}
use Rattle.smbus.specs.declared.message.Form.TheVariants as form
use Rattle.pmbus_table.specs.Codes.{page_code, operation_code, clear_faults_code}
use Rattle.pmbus_table.specs.Codes.{write_protect_code, vout_command_code, status_word_code}
use Rattle.board.specs.declared.entry.Range.{Range}
use Rattle.board.specs.Boards.{Allow, Rail, Board, entry_at}
use Rattle.plans.specs.declared.wish.Wish.{Wish}
use Rattle.plans.specs.Wishes.{voltage_of, protect_of, clears}
use Rattle.drafts.specs.declared.request.Request.{Request}
use Rattle.drafts.specs.Opening.{needs_page, targets_to_open, targets_to_protect}

abbrev pub byte_write : ℕ → ℕ → ℕ → Request
byte_write target code value =
    record { target = target; form = form.WriteByte; code = code; value = Some value }

-- WRITE_PROTECT of a target: all is permitted, and what the plan wishes at the end
abbrev pub opening : ℕ → Request
opening target = byte_write target write_protect_code 0x00

abbrev pub protection : List Wish → ℕ → Request
protection wishes target =
    byte_write target write_protect_code (unwrap_or (protect_of wishes target) 0)

-- what a rail is sent: its page where it has to be selected, CLEAR_FAULTS and the voltage where
-- they are wished, and what each rail is sent
abbrev pub page_requests : Board → Rail → List Request
page_requests b rail =
    if needs_page b rail then byte_write rail.target page_code rail.page ∷ [] else []

abbrev pub clear_requests : List Wish → ℕ → List Request
clear_requests wishes target =
    if clears wishes target
    then record { target = target; form = form.SendByte; code = clear_faults_code; value = None }
    ∷ []
    else []

abbrev pub voltage_requests : ℕ → Option ℕ → List Request
voltage_requests target None = []
voltage_requests target (Some mantissa) =
    record {
      target = target;
      form = form.WriteWord;
      code = vout_command_code;
      value = Some mantissa;
    } ∷ []

-- it is turned on, asked for its status, and turned off where the program gives up
abbrev pub plain_requests : ℕ → List Request
plain_requests target =
    byte_write target operation_code 0x80
    ∷ record { target = target; form = form.ReadWord; code = status_word_code; value = None }
    ∷ byte_write target operation_code 0x00 ∷ []

abbrev pub requests_to : Board → List Wish → ℕ → Option Rail → List Request
requests_to b wishes d None = []
requests_to b wishes d (Some rail) =
    page_requests b rail ++ (clear_requests wishes rail.target
    ++ (voltage_requests rail.target (voltage_of wishes d) ++ plain_requests rail.target))

abbrev pub rail_requests : Board → List Wish → ℕ → List Request
rail_requests b wishes d = requests_to b wishes d (slice_get b.rails d)

-- all messages of a program that turns on the rails in an order
abbrev pub requests : Board → List Wish → List ℕ → List Request
requests b wishes order =
    map opening (targets_to_open b wishes)
    ++ (flat_map (rail_requests b wishes) order
    ++ map (protection wishes) (targets_to_protect b wishes))

-- what is written lies outside a range
abbrev pub is_outside : Range → ℕ → Bool
is_outside values value = nat_lt value values.low || nat_lt values.high value

abbrev pub writes_outside : Range → Option ℕ → Bool
writes_outside values None = false
writes_outside values (Some value) = is_outside values value

abbrev pub is_refused_by : Option ℕ → Option Allow → Bool
is_refused_by value None = true
is_refused_by value (Some entry) = writes_outside entry.values value

-- no entry of its target permits a message with what it writes
abbrev pub is_refused : Board → Request → Bool
is_refused b r = is_refused_by r.value (entry_at b r.target r.form r.code)

-- a message to this target, of this form and code
abbrev pub IsSent : ℕ → Form → ℕ → Request → Type 0
IsSent target form code r = (r.target ≡ target) × (r.form ≡ form) × (r.code ≡ code)

-- the first message that no entry permits
abbrev pub first_refused : Board → List Wish → List ℕ → Option Request
first_refused b wishes order = find (is_refused b) (requests b wishes order)
