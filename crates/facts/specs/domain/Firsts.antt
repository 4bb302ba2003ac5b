-- The first number for which something isn't so. No public contract cites this.
use Rattle.std.specs.Prelude.{◌<◌, ℕ, Option, Some, None}

-- it is so for all numbers, or this is the first for which it isn't
abbrev pub FindsFirst : (ℕ → Type 0) → Option ℕ → Type 0
FindsFirst Is None = (n : ℕ) → Is n
FindsFirst Is (Some first) = (Is first → ⊥) × ((n : ℕ) → n < first → Is n)
