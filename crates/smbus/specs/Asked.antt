-- A message as the value that callers see.
use Rattle.std.specs.Prelude.{ℕ, ◌≡◌, ◌≤◌, List}
use Rattle.smbus.specs.declared.message.Form.{Form}
use Rattle.smbus.specs.declared.message.Form.TheVariants.{Alert}

pub record Asked : Type 0 where
  pub address : ℕ
  pub form : Form
  pub code : ℕ
  pub out : List ℕ

-- seven bits, and for an alert the alert response address (SMBus 3.2, appendix A)
abbrev pub IsAddressed : ℕ → Form → Type 0
IsAddressed address form = (address ≤ 127) × (form ≡ Alert → address ≡ 0x0C)
