-- An entry of an allow list, as its table says: the entry, or its first fault.
use Rattle.std.specs.Prelude.{ℕ, List, [], ◌∷◌, ◌++◌, length, not, Option, Some, None, option_map}
use Rattle.std.specs.Prelude.{option_and_then, unwrap_or, Result, Ok, if◌then◌else◌}
use Rattle.std.specs.Option.{option_map_or}
use Rattle.toml.specs.Data.{Items, no_items, item, Members, as_array}
use Rattle.smbus.specs.declared.message.Form.{Form}
use Rattle.smbus.specs.declared.message.Form.TheVariants as form
use Rattle.smbus.specs.FormWords.{form_named, carries_code}
use Rattle.texts.specs.Reading.{◌>>=◌, some_or, value_if}
use Rattle.pmbus_table.specs.Commands.{command_named, takes_form}
use Rattle.board.specs.declared.fault.BoardFault.{BoardFault}
use Rattle.board.specs.declared.fault.FaultKind.TheVariants.{SameName, BadRange, UnknownCommand}
use Rattle.board.specs.declared.entry.Range.{Range}
use Rattle.board.specs.declared.key.Key.{Key}
use Rattle.board.specs.declared.key.Key.TheVariants as key
use Rattle.board.specs.declared.keys.Sort.TheVariants as sort
use Rattle.board.specs.declared.keys.Kind.TheVariants as kind
use Rattle.board.specs.declared.site.Place.{Place}
use Rattle.board.specs.declared.site.Place.TheVariants.{Entry}
use Rattle.board.specs.Sites.{table_fault, key_fault}
use Rattle.board.specs.Keys.{Field, check_keys}
use Rattle.board.specs.Fields.{value_at, number_in, text_at}
use Rattle.board.specs.Boards.{Allow, has_entry}
use Rattle.board.specs.Valid.{full_values, full_length}

abbrev pub text_field : Key → Field
text_field key = (key, kind.One sort.Text)

abbrev pub list_field : Key → Field
list_field key = (key, kind.List)

-- an entry whose form isn't known yet
abbrev pub check_entry_keys : Place → Members → Result Members BoardFault
check_entry_keys table ms =
    check_keys table (text_field key.Form ∷ [])
    (text_field key.Command ∷ list_field key.Values ∷ list_field key.Length ∷ []) ms

-- what an entry of a form needs
abbrev pub needed_by : Form → List Field
needed_by f =
    if carries_code f then text_field key.Form ∷ text_field key.Command ∷ []
    else text_field key.Form ∷ []

-- what it may have: no values where no data are written or read, and a length for blocks alone
abbrev pub optional_for : Form → List Field
optional_for (form.Quick is_read) = []
optional_for form.SendByte = []
optional_for form.Alert = []
optional_for form.BlockWrite = list_field key.Values ∷ list_field key.Length ∷ []
optional_for form.BlockRead = list_field key.Values ∷ list_field key.Length ∷ []
optional_for form.BlockProcessCall = list_field key.Values ∷ list_field key.Length ∷ []
optional_for other = list_field key.Values ∷ []

abbrev pub form_at : Members → Option Form
form_at ms = option_and_then form_named (text_at key.Form ms)

-- the command, if it takes the form
abbrev pub command_at : Form → Members → Option ℕ
command_at f ms =
    option_and_then (λ c. if takes_form c f then Some c else None)
    (option_and_then command_named (text_at key.Command ms))

-- the command of an entry, nothing for a form that carries none
abbrev pub command_for : Place → Form → Members → Result (Option ℕ) BoardFault
command_for table f ms =
    if carries_code f
    then some_or (key_fault UnknownCommand table key.Command) (option_map Some (command_at f ms))
    else Ok None

-- two integers in order, within the full range
abbrev pub range_in : Range → Items → Option Range
range_in full (item low (item high no_items)) =
    option_and_then
    (λ l. option_map (λ h. record { low = l; high = h }) (number_in l full.high high))
    (number_in full.low full.high low)
range_in full other = None

-- the full range where the key is missing
abbrev pub range_at : Range → Key → Members → Option Range
range_at full key ms =
    option_map_or (range_in full) (option_and_then as_array (value_at key ms)) (Some full)

-- its ranges
unfoldable pub allow_of : Place → Form → Option ℕ → Members → Result Allow BoardFault
allow_of table f command ms = do
  values ← some_or (key_fault BadRange table key.Values) (range_at (full_values f) key.Values ms)
  length ← some_or (key_fault BadRange table key.Length) (range_at full_length key.Length ms)
  Ok (record { form = f; code = unwrap_or command 0; values = values; length = length })

-- the entry of a table, after the entries before it
unfoldable pub entry_from : Place → List Allow → Members → Result Allow BoardFault
entry_from table done ms = do
  typed ← check_entry_keys table ms
  f ← some_or (key_fault UnknownCommand table key.Form) (form_at typed)
  keys ← check_keys table (needed_by f) (optional_for f) typed
  command ← command_for table f keys
  new ←
      value_if (table_fault SameName table) (not (has_entry f (unwrap_or command 0) done)) command
  allow_of table f new keys

-- the entries of a target in order, after those that are done
abbrev pub entries_of : ℕ → List Allow → List Members → Result (List Allow) BoardFault
entries_of target done [] = Ok done
entries_of target done (ms ∷ tables) = entry_from (Entry target (length done)) done ms >>= λ a.
    entries_of target (done ++ a ∷ []) tables
