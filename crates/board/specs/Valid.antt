-- What every board keeps to, whatever file it was read from.
use Rattle.std.specs.Prelude.{◌≡◌, ◌≢◌, ◌≤◌, ◌<◌, ◌≤ℤ◌, ℕ, pos, negsuc, length, slice_get, Bool}
use Rattle.std.specs.Prelude.{true, false, ◌&&◌, ◌||◌, ◌==◌, not, nat_le, nat_lt, Some, IsTrue, All}
use Rattle.std.specs.Prelude.{if◌then◌else◌}
use Rattle.std.specs.List.{AllPairs, AllPass}
use Rattle.bit_bus.specs.declared.plan.TheConstants.{LONGEST_HOLD}
use Rattle.smbus.specs.declared.message.Form.{Form}
use Rattle.smbus.specs.declared.message.Form.TheVariants as form
use Rattle.smbus.specs.FormWords.{carries_code}
use Rattle.texts.specs.Names.{is_name}
use Rattle.pmbus_table.specs.Commands.{takes_form}
use Rattle.pmbus_table.specs.Protect.{is_protection}
use Rattle.board.specs.declared.entry.Range.{Range}
use Rattle.board.specs.Boards.{Allow, Target, Rail, Board}

-- a range that isn't empty, within another one
pub record IsWithin (full r : Range) : Type 0 where
  pub above : full.low ≤ r.low
  pub nonempty : r.low ≤ r.high
  pub below : r.high ≤ full.high

-- the forms whose values are words
abbrev pub has_words : Form → Bool
has_words form.WriteWord = true
has_words form.ReadWord = true
has_words form.ProcessCall = true
has_words other = false

-- all values of a form, and all lengths of a block
abbrev pub full_values : Form → Range
full_values f = record { low = 0; high = if has_words f then 65535 else 255 }

abbrev pub full_length : Range
full_length = record { low = 1; high = 255 }

-- a form of messages to a target, with a command that takes it where it carries one
pub record IsEntry (a : Allow) : Type 0 where
  pub to_target : a.form ≢ form.Alert
  pub takes : IsTrue (carries_code a.form) → IsTrue (takes_form a.code a.form)
  pub bare : carries_code a.form ≡ false → a.code ≡ 0
  pub in_values : IsWithin (full_values a.form) a.values
  pub in_length : IsWithin full_length a.length

-- two entries differ in form or code
abbrev pub DifferInUse : Allow → Allow → Type 0
DifferInUse a b = a.form ≡ b.form → a.code ≢ b.code

-- the addresses that a target may have: neither reserved nor the host's (08h), the alert response's
-- (0Ch) or the device default (61h) (SMBus 3.2, appendix C)
abbrev pub is_target_address : ℕ → Bool
is_target_address address =
    (nat_le 0x09 address && nat_le address 0x77) && not (address == 0x0C || address == 0x61)

-- the addresses to which other controllers may speak: neither reserved nor the alert response's
-- (0Ch)
abbrev pub is_foreign_address : ℕ → Bool
is_foreign_address address =
    (nat_le 0x08 address && nat_le address 0x77) && not (address == 0x0C)

-- FFh stands for all pages (PMBus 1.3 Part II, 11.10)
abbrev pub is_page_value : ℕ → ℕ → Bool
is_page_value pages value = nat_lt value pages || value == 0xFF

pub record IsTarget (t : Target) : Type 0 where
  pub address : IsTrue (is_target_address t.address)
  pub one_page : 1 ≤ t.pages
  pub few_pages : t.pages ≤ 32
  pub least_exponent : negsuc 15 ≤ℤ t.exponent
  pub most_exponent : t.exponent ≤ℤ pos 0
  pub stretch : t.stretch ≤ LONGEST_HOLD
  pub starts_paged : 0 < length t.start_pages
  pub start_pages : AllPass (is_page_value t.pages) t.start_pages
  pub starts_protected : 0 < length t.start_protects
  pub start_protects : AllPass is_protection t.start_protects
  pub entries : All IsEntry t.allow
  pub one_entry : AllPairs DifferInUse t.allow

-- the rail's page is one of its target's
pub record IsOnPage (b : Board) (r : Rail) (t : Target) : Type 0 where
  pub target : slice_get b.targets r.target ≡ Some t
  pub page : r.page < t.pages

pub record IsRail (b : Board) (r : Rail) : Type 0 where
  pub on_page : (t : Target) × IsOnPage b r t
  pub least_limit : 1 ≤ r.limit_uv
  pub most_limit : r.limit_uv ≤ 4294967295
  pub needs : All (λ n. n < length b.rails) r.needs

-- two rails are on different pages
abbrev pub DifferInPage : Rail → Rail → Type 0
DifferInPage r s = r.target ≡ s.target → r.page ≢ s.page

pub record IsBoard (b : Board) : Type 0 where
  pub one_target : 1 ≤ length b.targets
  pub few_targets : length b.targets ≤ 16
  pub targets : All IsTarget b.targets
  pub addresses : AllPairs (λ t u. t.address ≢ u.address) b.targets
  pub few_rails : length b.rails ≤ 64
  pub rails : All (IsRail b) b.rails
  pub one_rail : AllPairs DifferInPage b.rails
  pub no_self_need : (d : ℕ) (r : Rail) → slice_get b.rails d ≡ Some r → All (λ n. n ≢ d) r.needs
  -- a good name for each, all different
  pub target_names : length b.target_names ≡ length b.targets
  pub rail_names : length b.rail_names ≡ length b.rails
  pub good_target_names : AllPass is_name b.target_names
  pub good_rail_names : AllPass is_name b.rail_names
  pub apart_target_names : AllPairs (λ m n. m ≢ n) b.target_names
  pub apart_rail_names : AllPairs (λ m n. m ≢ n) b.rail_names
  -- the addresses of others are good ones, all different, and none is a target's
  pub few_foreign : length b.foreign ≤ 32
  pub good_foreign : AllPass is_foreign_address b.foreign
  pub apart_foreign : AllPairs (λ x y. x ≢ y) b.foreign
  pub no_target : All (λ x. All (λ t. t.address ≢ x) b.targets) b.foreign
  pub foreign_bytes : b.foreign_bytes ≤ 255
  pub foreign_stretch : b.foreign_stretch ≤ 4999
  pub contentions : b.contentions ≤ 1000
