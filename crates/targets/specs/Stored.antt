-- A list with one value written, as the code writes it. No public contract cites this.
use Rattle.std.specs.Prelude.{ℕ, List, slice_set, Option, Some, None}

abbrev pub with_write : Option (ℕ × ℕ) → List ℕ → List ℕ
with_write None stored = stored
with_write (Some w) stored = slice_set stored w.0 w.1
