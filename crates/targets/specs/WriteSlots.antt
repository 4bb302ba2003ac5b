-- The slots of a Write Byte by their numbers, as the code looks at them: address and code are bytes
-- 0 and 1, the value is in slots 18 to 25, and its acknowledge is slot 26. No public contract cites
-- this.
use Rattle.std.specs.Prelude.{ℕ, nat_lt, Bool, true, Option, Some, None}

-- neither the address nor the code is refused
abbrev pub reaches_value : Option ℕ → Bool
reaches_value None = true
reaches_value (Some n) = nat_lt 1 n

-- no slot up to the value's last bit is cut
abbrev pub cuts_after_value : Option ℕ → Bool
cuts_after_value None = true
cuts_after_value (Some slot) = nat_lt 25 slot
