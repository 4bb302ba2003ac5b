-- How long an instruction takes at most.
use Rattle.std.specs.Prelude.{ℕ, ◌+◌, ◌*◌, Option, Some, None}
use Rattle.board.specs.declared.entry.Range.{Range}
use Rattle.board.specs.Boards.{Board, largest_stretch}
use Rattle.smbus.specs.declared.message.Form.TheVariants as form
use Rattle.smbus.specs.SlotCounts.{most_slots}
use Rattle.seq_program.specs.declared.instr.Instr.{Instr}
use Rattle.seq_program.specs.declared.instr.Instr.TheVariants as instr
use Rattle.seq_program.specs.Requests.{Request, request_in, block_count}
use Rattle.facts.specs.duties.Allowing.{lengths_at}

-- a message of so many slots: two ticks, and three for each slot and those for which it is
-- stretched
unfoldable pub frame_ticks : Board → ℕ → ℕ
frame_ticks b slots = 2 + slots * (3 + largest_stretch b.targets)

abbrev pub longest_slots : Board → Request → ℕ
longest_slots b r =
    most_slots r.transaction.form (block_count r.transaction.content)
    (Range.high (lengths_at b r.target r.transaction))

-- of an instruction that sends nothing to a target
abbrev pub other_ticks : Board → Instr → ℕ
other_ticks b (instr.Alert register otherwise) = frame_ticks b (most_slots form.Alert 0 0)
other_ticks b (instr.Wait ticks) = ticks + 1
other_ticks b _ = 1

abbrev pub ticks_of : Board → Instr → Option Request → ℕ
ticks_of b i None = other_ticks b i
ticks_of b i (Some r) = frame_ticks b (longest_slots b r)

-- the most ticks of an instruction over whose message no other controller wins
abbrev pub own_ticks : Board → Instr → ℕ
own_ticks b i = ticks_of b i (request_in i)
