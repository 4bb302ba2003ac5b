-- A request takes no more ticks than its instruction's worst.
use Rattle.std.proofs.Common.{◌≡◌, ◌≤◌, ◌+◌, ◌*◌, ℕ, Option, List, length, sym, ap, subst, ◌∙◌}
use Rattle.std.proofs.Common.{arith}
use Rattle.std.specs.Prelude.{option_map, unwrap_or}
use Rattle.std.proofs.Math.Nat.{mul-le-mul_right}
use Rattle.smbus.specs.Answered.{Answered}
use Rattle.smbus.specs.SlotCounts.{most_slots}
use Rattle.board.specs.declared.entry.Range.{Range}
use Rattle.board.specs.Boards.{Allow, Target, Board, largest_stretch}
use Rattle.board.specs.Valid.{full_length}
use Rattle.targets.specs.Fitting.{FitsBlock, lengths_for}
use Rattle.seq_program.specs.declared.instr.Width.TheVariants as width
use Rattle.seq_program.specs.declared.instr.Written.TheVariants as written
use Rattle.simulator.specs.Machines.{Machine, Entry}
use Rattle.facts.specs.domain.Rows.{Row}
use Rattle.seq_program.specs.Requests.{Transaction, read}
use Rattle.seq_program.specs.Requests.{read_block, call_block, request, data_in, block_count}
use Rattle.facts.specs.duties.Allowing.{lengths_at}
use Rattle.facts.specs.transfer.Ticks.{frame_ticks, longest_slots}
use Rattle.facts.proofs.Shared.Asking.{Quick, Send, Receive, Write, Read, Call, PutBlock}
use Rattle.facts.proofs.Shared.Asking.{GetBlock, CallBlock}
use Rattle.facts.proofs.Shared.Asking.{asked, IsRequest, Sending, entry_same, entry_there}

lengths_are : (b : Board) (row : Row) (h : List Entry) (m next : Machine) (i : ℕ) (t : Target)
    (r : Transaction)
    (a : Answered) (e : Entry) → Sending b row h m next i t r a e
    → lengths_for b (asked t m.regs r) ≡ lengths_at b i r
lengths_are b row h m next i t r a e k =
    ap (λ (o : Option Allow). unwrap_or (option_map (λ (x : Allow). x.length) o) full_length)
    (entry_same b i t m.regs r k.board k.at ∙ sym (entry_there b i t r k.at))

block_short : (b : Board) (row : Row) (h : List Entry) (m next : Machine) (i : ℕ) (t : Target)
    (r : Transaction)
    (a : Answered) (e : Entry) (n : ℕ) → Sending b row h m next i t r a e
    → FitsBlock b (asked t m.regs r) n a.bytes → length a.bytes ≤ Range.high (lengths_at b i r)
block_short b row h m next i t r a e n k f =
    let P : Range → Type 0 = λ z. length a.bytes ≤ z.high in
    subst P (lengths_are b row h m next i t r a e k) f.count.below

slots_within : (b : Board) (row : Row) (h : List Entry) (m next : Machine) (i : ℕ) (t : Target)
    (r : Transaction) (q : IsRequest r) (a : Answered) (e : Entry)
    → Sending b row h m next i t r a e
    → most_slots r.form (length (data_in m.regs r)) (length a.bytes) ≤ most_slots r.form
    (block_count r.content) (Range.high (lengths_at b i r))
slots_within b row h m next i t r (Quick read) a e k = omega arith
slots_within b row h m next i t r (Send c ok) a e k = omega arith
slots_within b row h m next i t r (Receive g lt) a e k = omega arith
slots_within b row h m next i t r (Write c (written.Byte v) ok) a e k = omega arith
slots_within b row h m next i t r (Write c (written.Word v) ok) a e k = omega arith
slots_within b row h m next i t r (Write c (written.Register g) ok) a e k = omega arith
slots_within b row h m next i t r (Read c width.Byte g ok lt) a e k = omega arith
slots_within b row h m next i t r (Read c width.Word g ok lt) a e k = omega arith
slots_within b row h m next i t r (Call c v g ok most lt) a e k = omega arith
slots_within b row h m next i t r (PutBlock c bytes ok block) a e k = omega arith
slots_within b row h m next i t r (GetBlock c g ok lt) a e k = let short =
    block_short b row h m next i t (read_block c g) a e 0 k k.fits.form.0 in omega (arith, short)
slots_within b row h m next i t r (CallBlock c bytes g ok block lt) a e k = let short =
    block_short b row h m next i t (call_block c bytes g) a e (length bytes) k k.fits.form.0 in
    omega (arith, short)

pub request_ticks : (b : Board) (row : Row) (h : List Entry) (m next : Machine) (i : ℕ) (t : Target)
    (r : Transaction) (otherwise : ℕ) (a : Answered) (e : Entry) → Sending b row h m next i t r a e
    → length e.samples ≤ frame_ticks b (longest_slots b (request i r otherwise))
unfolding frame_ticks
request_ticks b row h m next i t r otherwise a e k =
    let few = k.carries.reads.few (largest_stretch b.targets) k.fits.holds in
    let more : most_slots r.form (length (data_in m.regs r)) (length a.bytes) *
    (3 + largest_stretch b.targets)
    ≤ most_slots r.form (block_count r.content)
    (Range.high (lengths_at b i r)) * (3 + largest_stretch b.targets)
    =
    mul-le-mul_right (3 + largest_stretch b.targets)
    (slots_within b row h m next i t r k.request a e k) in
    rw k.carries.samples (omega (arith, few, more))
