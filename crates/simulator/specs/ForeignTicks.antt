-- How long other controllers hold the bus in the place of a message.
use Rattle.std.specs.Prelude.{ℕ, ◌+◌, ◌*◌, nat_lt, max, if◌then◌else◌}
use Rattle.smbus.specs.Contenders.{contender_slot_count}
use Rattle.board.specs.Boards.{Board, largest_stretch}

-- the longest frame of another controller: an idle tick and its START, and three for each slot with
-- those for which it is stretched
abbrev pub foreign_ticks : Board → ℕ
foreign_ticks b = 2 + contender_slot_count b.foreign_bytes * (3 + b.foreign_stretch)

-- it may stand in the place of a message where an arbitration may be lost
abbrev pub ticks_in_place : Board → ℕ
ticks_in_place b = if nat_lt 0 b.contentions then foreign_ticks b else 0

-- what a message of so many slots takes at most, or the frame that stands in its place
abbrev pub message_ticks : Board → ℕ → ℕ
message_ticks b slots =
    max (2 + slots * (3 + largest_stretch b.targets)) (ticks_in_place b)
