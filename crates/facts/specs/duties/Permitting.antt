-- Protections that permit a write. No public contract cites this: `Duties` says what is asked.
use Rattle.std.specs.Prelude.{◌≡◌, ℕ, true, Some, IsTrue}
use Rattle.pmbus_table.specs.Protect.{permits}
use Rattle.facts.specs.domain.Sets.{protects_in}

-- the protection, where it may be stored, permits writes of the code
abbrev pub PermitsAt : ℕ → ℕ → ℕ → Type 0
PermitsAt protects code protect = IsTrue (protects_in protects protect)
    → permits protect code ≡ Some true
