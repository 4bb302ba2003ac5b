-- What an entry is found by.
use Rattle.std.specs.Prelude.{◌≡◌, ℕ, List, map, Bool, ◌&&◌, ◌==◌}
use Rattle.pmbus_table.specs.Forms.{form_number}
use Rattle.smbus.specs.declared.message.Form.{Form}
use Rattle.board.specs.declared.allow_list.EntryKey.{EntryKey}
use Rattle.board.specs.declared.allow_list.AllowList.TheInside.{Inside as AllowListFields}
use Rattle.board.specs.Boards.{Allow, code_in}

abbrev pub key_for : Form → ℕ → EntryKey
key_for form code = record { form = form; code = code_in form code }

abbrev pub key_of : Allow → EntryKey
key_of a = record { form = a.form; code = a.code }

abbrev pub same_key : EntryKey → EntryKey → Bool
same_key a b = form_number a.form == form_number b.form && a.code == b.code

abbrev pub allow_list_view : AllowListFields → List Allow
allow_list_view l = l.entries.items

-- each entry's key stands at its place
abbrev pub IsFound : AllowListFields → Type 0
IsFound l = l.keys.keys ≡ map key_of l.entries.items
