-- The least of some bytes. No public contract cites this: the wire's byte is that of the
-- arbitration.
use Rattle.std.specs.Prelude.{ℕ, Option, Some, None, List, [], ◌∷◌, min}

abbrev pub lesser : Option ℕ → ℕ → ℕ
lesser None b = b
lesser (Some n) b = min b n

-- the least of a byte, if there is one, and others
abbrev pub least_with : Option ℕ → List ℕ → Option ℕ
least_with o [] = o
least_with o (b ∷ bs) = least_with (Some (lesser o b)) bs
