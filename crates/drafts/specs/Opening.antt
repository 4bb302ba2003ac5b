-- Where a page has to be selected, which targets have to be opened, and which are protected at the
-- end.
use Rattle.std.specs.Prelude.{ℕ, List, Bool, false, ◌==◌, ◌&&◌, ◌||◌, not, nat_lt, length, filter}
use Rattle.std.specs.Prelude.{Option, Some, None, unwrap_or, is_some, slice_get}
use Rattle.std.specs.List.{list_any, range_with_len}
use Rattle.pmbus_table.specs.Codes.{page_code, operation_code, vout_command_code}
use Rattle.pmbus_table.specs.Protect.{permits}
use Rattle.board.specs.Boards.{Target, Rail, Board}
use Rattle.plans.specs.declared.wish.Wish.{Wish}
use Rattle.plans.specs.Wishes.{voltage_of, protect_of}

-- a page is to be selected: its target has several, or may start at another value of PAGE
abbrev pub is_selected : ℕ → Option Target → Bool
is_selected page None = false
is_selected page (Some target) =
    nat_lt 1 target.pages || list_any (λ start. not (start == page)) target.start_pages

abbrev pub needs_page : Board → Rail → Bool
needs_page b rail = is_selected rail.page (slice_get b.targets rail.target)

-- a value of WRITE_PROTECT doesn't permit a write
abbrev pub forbids : ℕ → ℕ → Bool
forbids protect code = not (unwrap_or (permits protect code) false)

-- it forbids one of the writes by which a rail is turned on
abbrev pub forbids_rail : Board → List Wish → ℕ → Rail → ℕ → Bool
forbids_rail b wishes d rail protect =
    (forbids protect operation_code || (needs_page b rail && forbids protect page_code))
    || (is_some (voltage_of wishes d) && forbids protect vout_command_code)

-- the target drives the rail, and may start with such a value
abbrev pub is_shut_by : Board → List Wish → ℕ → ℕ → Option Rail → Option Target → Bool
is_shut_by b wishes index d (Some rail) (Some target) =
    rail.target == index && list_any (forbids_rail b wishes d rail) target.start_protects
is_shut_by b wishes index d _ _ = false

abbrev pub is_shut : Board → List Wish → ℕ → ℕ → Bool
is_shut b wishes index d =
    is_shut_by b wishes index d (slice_get b.rails d) (slice_get b.targets index)

abbrev pub has_to_open : Board → List Wish → ℕ → Bool
has_to_open b wishes index =
    list_any (is_shut b wishes index) (range_with_len 0 (length b.rails))

-- the plan wishes a value of WRITE_PROTECT at the end
abbrev pub is_protected : List Wish → ℕ → Bool
is_protected wishes index = is_some (protect_of wishes index)

-- the targets that have to be opened, and those that are protected at the end, in the board's order
abbrev pub targets_to_open : Board → List Wish → List ℕ
targets_to_open b wishes = filter (has_to_open b wishes) (range_with_len 0 (length b.targets))

abbrev pub targets_to_protect : Board → List Wish → List ℕ
targets_to_protect b wishes = filter (is_protected wishes) (range_with_len 0 (length b.targets))
