-- A target, as its table says: its name and the target, or its first fault.
use Rattle.std.specs.Prelude.{ℕ, ℤ, List, [], ◌∷◌, ◌++◌, length, Bool, ◌&&◌}
use Rattle.std.specs.Prelude.{◌==◌, not, nat_lt, Option, Some, None, unwrap_or, position, Result}
use Rattle.std.specs.Prelude.{Ok, option_and_then, if◌then◌else◌}
use Rattle.std.specs.List.{list_any}
use Rattle.toml.specs.Data.{Items, no_items, item, Members, as_integer}
use Rattle.texts.specs.Reading.{◌>>=◌, some_or, value_if}
use Rattle.bit_bus.specs.declared.plan.TheConstants.{LONGEST_HOLD}
use Rattle.pmbus_table.specs.Protect.{is_protection}
use Rattle.pmbus_table.specs.Voltage.{is_exponent}
use Rattle.board.specs.declared.fault.BoardFault.{BoardFault}
use Rattle.board.specs.declared.fault.FaultKind.TheVariants.{SameName, BadAddress}
use Rattle.board.specs.declared.fault.FaultKind.TheVariants.{SameAddress, TooMany, BadExponent}
use Rattle.board.specs.declared.fault.FaultKind.TheVariants.{BadStretch, BadStart}
use Rattle.board.specs.declared.key.Key.{Key}
use Rattle.board.specs.declared.key.Key.TheVariants as key
use Rattle.board.specs.declared.keys.Sort.TheVariants as sort
use Rattle.board.specs.declared.keys.Kind.TheVariants as kind
use Rattle.board.specs.declared.site.Place.{Place}
use Rattle.board.specs.declared.site.Place.TheVariants as place
use Rattle.board.specs.declared.targets.Numbers.{Numbers}
use Rattle.board.specs.Reading.{unless_wrong}
use Rattle.board.specs.Sites.{key_fault, item_fault}
use Rattle.board.specs.Keys.{check_keys, integer_field, integers_field}
use Rattle.board.specs.Fields.{value_at, number_in, number_at, text_at, flag_at, items_at}
use Rattle.board.specs.Fields.{tables_at}
use Rattle.board.specs.Boards.{Target}
use Rattle.board.specs.Valid.{is_target_address, is_page_value}
use Rattle.board.specs.Named.{Named, is_named, with_item}
use Rattle.board.specs.Entries.{entries_of}

abbrev pub check_target_keys : Place → Members → Result Members BoardFault
check_target_keys table ms =
    check_keys table
    ((key.Name, kind.Name) ∷ integer_field key.Address ∷ integer_field key.Pages
    ∷ integer_field key.Exponent ∷ integer_field key.Stretch ∷ integers_field key.StartPages
    ∷ integers_field key.StartProtects ∷ [])
    ((key.Alerts, kind.One sort.Flag) ∷ (key.Allow, kind.ListOf sort.Table) ∷ []) ms

-- the name of a table whose keys are good
abbrev pub name_in : Members → List ℕ
name_in ms = unwrap_or (text_at key.Name ms) []

-- a name that nothing before it has
abbrev pub new_name : Place → List (List ℕ) → Members → Result (List ℕ) BoardFault
new_name table names ms =
    value_if (key_fault SameName table key.Name) (not (is_named (name_in ms) names)) (name_in ms)

abbrev pub address_at : Members → Option ℕ
address_at ms =
    option_and_then (λ a. if is_target_address a then Some a else None)
    (number_at 0 127 key.Address ms)

abbrev pub has_address : ℕ → List Target → Bool
has_address address targets = list_any (λ t. t.address == address) targets

-- an address that a target may have, and that no target before it has
unfoldable pub new_address : Place → List Target → Members → Result ℕ BoardFault
new_address table done ms = do
  address ← some_or (key_fault BadAddress table key.Address) (address_at ms)
  value_if (key_fault SameAddress table key.Address) (not (has_address address done)) address

abbrev pub exponent_of : ℤ → Option ℤ
exponent_of z = if is_exponent z then Some z else None

abbrev pub exponent_at : Members → Option ℤ
exponent_at ms =
    option_and_then exponent_of (option_and_then as_integer (value_at key.Exponent ms))

unfoldable pub numbers_of : Place → Members → Result Numbers BoardFault
numbers_of table ms = do
  pages ← some_or (key_fault TooMany table key.Pages) (number_at 1 32 key.Pages ms)
  exponent ← some_or (key_fault BadExponent table key.Exponent) (exponent_at ms)
  stretch ←
      some_or (key_fault BadStretch table key.Stretch) (number_at 0 LONGEST_HOLD key.Stretch ms)
  Ok (record { pages = pages; exponent = exponent; stretch = stretch })

-- the elements of a key's list as bytes, after those that are done
abbrev pub bytes_of : Place → Key → List ℕ → Items → Result (List ℕ) BoardFault
bytes_of table k done no_items = Ok done
bytes_of table k done (item d ds) =
    some_or (item_fault BadStart table k (length done)) (number_in 0 255 d) >>= λ n.
    bytes_of table k (done ++ n ∷ []) ds

-- start values: at least one, and none that can't be
unfoldable pub start_values : Place → Key → Option ℕ → List ℕ → Result (List ℕ) BoardFault
start_values table k wrong values = do
  some ← value_if (key_fault BadStart table k) (nat_lt 0 (length values)) values
  unless_wrong (item_fault BadStart table k) wrong some

-- the place of the first value that PAGE can't have
abbrev pub first_no_page : ℕ → List ℕ → Option ℕ
first_no_page pages values = position (λ v. not (is_page_value pages v)) values

-- the start values of PAGE
unfoldable pub start_pages_of : Place → ℕ → Members → Result (List ℕ) BoardFault
start_pages_of table pages ms = do
  values ← bytes_of table key.StartPages [] (items_at key.StartPages ms)
  start_values table key.StartPages (first_no_page pages values) values

-- the place of the first value that WRITE_PROTECT can't have
abbrev pub first_no_protection : List ℕ → Option ℕ
first_no_protection values = position (λ v. not (is_protection v)) values

-- the start values of WRITE_PROTECT
unfoldable pub start_protects_of : Place → Members → Result (List ℕ) BoardFault
start_protects_of table ms = do
  values ← bytes_of table key.StartProtects [] (items_at key.StartProtects ms)
  start_values table key.StartProtects (first_no_protection values) values

-- what is left of the target of an index, after its name, its address and its numbers
unfoldable pub target_with : ℕ → ℕ → Numbers → Members → Result Target BoardFault
target_with index address numbers ms = do
  start_pages ← start_pages_of (place.Target index) numbers.pages ms
  start_protects ← start_protects_of (place.Target index) ms
  allow ← entries_of index [] (tables_at key.Allow ms)
  Ok (record {
    address = address;
    pages = numbers.pages;
    exponent = numbers.exponent;
    stretch = numbers.stretch;
    alerts = flag_at key.Alerts ms;
    start_pages = start_pages;
    start_protects = start_protects;
    allow = allow;
  })

-- the target of an index, as its table says, after the targets before it
unfoldable pub target_from : ℕ → Named Target → Members → Result (List ℕ × Target) BoardFault
target_from index done ms = do
  keys ← check_target_keys (place.Target index) ms
  name ← new_name (place.Target index) done.names keys
  address ← new_address (place.Target index) done.items keys
  numbers ← numbers_of (place.Target index) keys
  target ← target_with index address numbers keys
  Ok (name, target)

-- the targets in order, after those that are done
abbrev pub targets_of : Named Target → List Members → Result (Named Target) BoardFault
targets_of done [] = Ok done
targets_of done (ms ∷ tables) = target_from (length done.items) done ms >>= λ t.
    targets_of (with_item t.0 t.1 done) tables
