-- A frame as it was seen on the wire (UM10204, 3.1.5, 3.1.6 and 3.1.10).
use Rattle.std.specs.Prelude.{ℕ, ◌/◌, ◌%◌, ◌==◌, Bool, Option, Some, None, List, [], ◌∷◌}

pub record Shown : Type 0 where
  -- the bytes after each START, with true for an acknowledge
  pub segments : List (List (ℕ × Bool))
  -- the bits left over before the STOP
  pub tail : List Bool

-- the first byte after a START is the address in its upper seven bits, and the direction in its
-- lowest
abbrev pub address_of : List (ℕ × Bool) → Option ℕ
address_of [] = None
address_of (b ∷ later) = Some (b.0 / 2)

-- whether the direction is to read
abbrev pub is_read_of : List (ℕ × Bool) → Option Bool
is_read_of [] = None
is_read_of (b ∷ later) = Some (b.0 % 2 == 1)
