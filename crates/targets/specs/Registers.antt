-- The two registers of a target that decide what becomes of its messages.
use Rattle.std.specs.Prelude.{ℕ, Bool, Option}
use Rattle.smbus.specs.Asked.{Asked}
use Rattle.smbus.specs.Answered.{Answered}
use Rattle.pmbus_table.specs.Codes.{page_code, write_protect_code}
use Rattle.pmbus_table.specs.Protect.{is_protection}
use Rattle.board.specs.Boards.{Target, Board}
use Rattle.board.specs.Valid.{is_page_value}
use Rattle.targets.specs.declared.effect.Register.{Register}
use Rattle.targets.specs.declared.effect.Register.TheVariants.{Page, Protect}
use Rattle.targets.specs.Effects.{Writes}
use Rattle.targets.specs.States.{BusState}

abbrev pub code_of : Register → ℕ
code_of Page = page_code
code_of Protect = write_protect_code

abbrev pub takes : Register → Target → ℕ → Bool
takes Page t value = is_page_value t.pages value
takes Protect t value = is_protection value

-- `WritesPage` or `WritesProtect`
abbrev pub SetsRegister : Register → Board → BusState → Option Asked → Answered → ℕ → ℕ → Type 0
SetsRegister r b s m a i value = Writes (code_of r) (takes r) b s m a i value
