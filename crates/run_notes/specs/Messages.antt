-- The line of a message.
use Rattle.std.specs.Prelude.{ℕ, List, unwrap_or}
use Rattle.run_notes.specs.AnswerPlaces.{counted_line}

-- the first line that counts, or the first
abbrev pub message_line : List (List ℕ) → ℕ
message_line lines = unwrap_or (counted_line 0 lines) 1
