-- The lints of a board and a program on it, in the order in which they are told.
use Rattle.std.specs.Prelude.{◌≡◌, ◌≤◌, ◌↔◌, ◌++◌, ℕ, List, [], ◌∷◌, length, take, slice_get, All}
use Rattle.std.specs.Prelude.{IsSomeAnd, if◌then◌else◌, max, unwrap_or, Bool, Contains, map}
use Rattle.std.specs.Prelude.{find, flat_map, IsTrue, false, ◌==◌, ◌&&◌, not}
use Rattle.std.specs.List.{list_any, enumerate_from, AllPairs}
use Rattle.std.specs.Option.{option_map_or}
use Rattle.smbus.specs.Asked.{Asked}
use Rattle.smbus.specs.declared.message.Form.TheVariants as form
use Rattle.pmbus_table.specs.Codes.{operation_code}
use Rattle.board.specs.Boards.{Allow, Target, Rail, Board, entry_of}
use Rattle.seq_program.specs.declared.instr.Instr.{Instr}
use Rattle.board_lints.specs.declared.lint.Lint.{Lint}
use Rattle.board_lints.specs.declared.lint.Lint.TheVariants.{AllPages, Protected, Circle}
use Rattle.board_lints.specs.declared.lint.Lint.TheVariants.{IdleRail, LooseLimit, NeverWins}
use Rattle.board_lints.specs.declared.lint.Lint.TheVariants.{NoForeign, NoContentions}
use Rattle.board_lints.specs.declared.lint.Lack.{Lack}
use Rattle.board_lints.specs.declared.lint.Lack.TheVariants as lack
use Rattle.board_lints.specs.Reasons.{sent_by, starts_at_all_pages, starts_protected}
use Rattle.board_lints.specs.Reasons.{is_read_of_page}
use Rattle.board_lints.specs.Reasons.{is_forbidden, is_idle_rail, may_enable, is_loose_rail}
use Rattle.board_lints.specs.Reasons.{takes_voltage, never_wins, has_foreign, AllCanComeGood}
use Rattle.board_lints.specs.Ready.{is_ready}

abbrev pub Lints : Type 0
Lints = List Lint

-- this lint, if there is reason for it
abbrev pub only_if : Bool → Lint → Lints
only_if there lint = if there then lint ∷ [] else []

-- the command of the first message that is such a one
abbrev pub first_code : (Asked → Bool) → List Asked → ℕ
first_code is ms = option_map_or (λ m. m.code) (find is ms) 0

-- a target may start with all pages, and this command reads what a page has
abbrev pub page_lint : List Asked → ℕ → Target → Lint
page_lint ms index t = AllPages index (first_code (is_read_of_page t) ms)

-- the first start value of WRITE_PROTECT that forbids a message
abbrev pub first_forbidding : List Asked → Target → ℕ
first_forbidding ms t =
    unwrap_or (find (λ protect. list_any (is_forbidden t protect) ms) t.start_protects) 0

-- a target may start with this protection, which forbids a write of this command
abbrev pub protect_lint : List Asked → ℕ → Target → Lint
protect_lint ms index t =
    Protected index (first_forbidding ms t)
    (first_code (is_forbidden t (first_forbidding ms t)) ms)

-- the lints of the start values of a target
abbrev pub target_lints : List Asked → ℕ × Target → Lints
target_lints ms target =
    only_if (starts_at_all_pages ms target.1) (page_lint ms target.0 target.1)
    ++ only_if (starts_protected ms target.1) (protect_lint ms target.0 target.1)

-- what a target lacks to turn a rail on: an entry for OPERATION, a value of it that enables, or one
-- of PAGE that selects the rail
abbrev pub lack_of : Target → Lack
lack_of t =
    if may_enable t then lack.Page
    else option_map_or (λ a. lack.Value) (entry_of form.WriteByte operation_code t.allow) lack.Entry

abbrev pub rail_lack : Board → Rail → Lack
rail_lack b r = option_map_or lack_of (slice_get b.targets r.target) lack.Entry

abbrev pub idle_lints : Board → ℕ × Rail → Lints
idle_lints b rail = only_if (is_idle_rail b rail.1) (IdleRail rail.0 (rail_lack b rail.1))

abbrev pub greatest : List ℕ → ℕ
greatest [] = 0
greatest (value ∷ later) = max value (greatest later)

-- the greatest voltage that an entry takes, and the greatest of those of a target
abbrev pub entry_voltage : Allow → ℕ
entry_voltage a = if takes_voltage a then a.values.high else 0

abbrev pub greatest_voltage : Target → ℕ
greatest_voltage t = greatest (map entry_voltage t.allow)

abbrev pub rail_voltage : Board → Rail → ℕ
rail_voltage b r = option_map_or greatest_voltage (slice_get b.targets r.target) 0

abbrev pub loose_lints : Board → ℕ × Rail → Lints
loose_lints b rail =
    only_if (is_loose_rail b rail.1) (LooseLimit rail.0 (rail_voltage b rail.1))

-- those about the start values of targets, about rails that nothing turns on, and about limits that
-- nothing breaks
abbrev pub unready_targets : Board → List Instr → Lints
unready_targets b p = flat_map (target_lints (sent_by b p)) (enumerate_from 0 b.targets)

abbrev pub idle_rails : Board → Lints
idle_rails b = flat_map (idle_lints b) (enumerate_from 0 b.rails)

abbrev pub loose_limits : Board → Lints
loose_limits b = flat_map (loose_lints b) (enumerate_from 0 b.rails)

-- another controller's frame to an address that never wins
abbrev pub address_lints : Board → ℕ → Lints
address_lints b address = only_if (never_wins b address) (NeverWins address)

-- others may win, and send to no address; or they send to some, and may never win
abbrev pub count_lints : Board → Lints
count_lints b =
    only_if (not (b.contentions == 0) && not (has_foreign b)) (NoForeign b.contentions)
    ++ only_if (b.contentions == 0 && has_foreign b) NoContentions

abbrev pub foreign_lints : Board → Lints
foreign_lints b = flat_map (address_lints b) b.foreign ++ count_lints b

-- a rail needs another
abbrev pub Needs : Board → ℕ → ℕ → Type 0
Needs b rail other = IsSomeAnd (slice_get b.rails rail) (λ r. Contains r.needs other)

-- each rail of a way needs the next one
abbrev pub LeadsOn : Board → List ℕ → Type 0
LeadsOn b (rail ∷ other ∷ later) = Needs b rail other × LeadsOn b (other ∷ later)
LeadsOn b short = Unit {0}

-- each of some rails needs the next one, and the last the first
abbrev pub GoesRound : Board → List ℕ → Type 0
GoesRound b rails = (1 ≤ length rails) × LeadsOn b (rails ++ take 1 rails)

abbrev pub IsCircle : Board → Lint → Type 0
IsCircle b (Circle rails) = GoesRound b rails.items
IsCircle b other = ⊥

abbrev pub rails_of : Lint → List ℕ
rails_of (Circle rails) = rails.items
rails_of other = []

-- no rail is in both circles
abbrev pub AreApart : Lint → Lint → Type 0
AreApart circle other =
    (d : ℕ) → IsTrue (is_ready (rails_of circle) d) → is_ready (rails_of other) d ≡ false

-- circles of needs are told, each rail in one at most
pub record TellsCircles (b : Board) (before after : Lints) : Type 0 where
  pub circles : Lints
  pub told : after ≡ before ++ circles
  pub each : All (IsCircle b) circles
  pub apart : AllPairs AreApart circles

-- the lints of a board and a program on it: circles of needs are among them where some rail
-- can't come good, one at least
pub record AreLints (b : Board) (p : List Instr) (lints : Lints) : Type 0 where
  pub circles : Lints
  pub told : lints
      ≡ unready_targets b p ++ circles ++ idle_rails b ++ loose_limits b ++ foreign_lints b
  pub each : All (IsCircle b) circles
  pub apart : AllPairs AreApart circles
  pub some : (circles ≡ []) ↔ AllCanComeGood b
