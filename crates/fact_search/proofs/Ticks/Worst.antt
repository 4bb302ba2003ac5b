-- Worst ticks are low.
use Rattle.std.proofs.Common.{◌≡◌, ℕ, ◌+◌, ◌*◌, ◌≤◌, ◌⊎◌, inl, inr, sym, ◌∙◌, subst, true, false}
use Rattle.std.proofs.Common.{List, [], ◌∷◌, refl, arith}
use Rattle.std.proofs.Common.{mul-le-mul}
use Rattle.std.proofs.lemmas.List.Elements.{recursion_from_All}
use Rattle.std.specs.Prelude.{slice_get, Option, Some, None, IfSome, option_and_then, option_map}
use Rattle.std.specs.Prelude.{unwrap_or}
use Rattle.std.proofs.lemmas.Bool.{cases_Bool, cond-true, cond-false}
use Rattle.std.specs.List.{AllByRecursion}
use Rattle.board.specs.declared.entry.Range.{Range}
use Rattle.board.specs.Boards.{Allow, Target, Board, largest_stretch, entry_of, is_for}
use Rattle.board.specs.Valid.{IsBoard, IsTarget, IsEntry, full_length}
use Rattle.seq_program.specs.declared.instr.Instr.{Instr}
use Rattle.seq_program.specs.declared.instr.Instr.TheVariants as instr
use Rattle.seq_program.specs.Valid.{IsInstr}
use Rattle.smbus.specs.declared.message.Form.{Form}
use Rattle.smbus.specs.declared.message.Form.TheVariants as form
use Rattle.smbus.specs.SlotCounts.{most_slots}
use Rattle.seq_program.specs.Requests.{Transaction, Request, request_in, code_in, block_count}
use Rattle.facts.specs.duties.Allowing.{lengths_at}
use Rattle.smbus.specs.Contenders.{contender_slot_count}
use Rattle.simulator.specs.ForeignTicks.{foreign_ticks}
use Rattle.facts.specs.transfer.Ticks.{frame_ticks, longest_slots, ticks_of, other_ticks, own_ticks}
use Rattle.fact_search.proofs.Shared.Places.{is_target, none_some, some_same}

-- the entry that is found is one of the list
found_entry : (P : Allow → Type 0) (f : Form) (code : ℕ) (allow : List Allow) (e : Allow)
    → AllByRecursion P allow → entry_of f code allow ≡ Some e → P e
found_entry P f code [] e all is = absurd (none_some e is)
found_entry P f code (x ∷ allow) e all is =
    go (λ later. found_entry P f code allow e all.1 later) (cases_Bool (is_for f code x))
  where
    go : (entry_of f code allow ≡ Some e → P e)
        → (is_for f code x ≡ true) ⊎ (is_for f code x ≡ false) → P e
    go rest (inl t) =
        subst P (some_same x e (sym (cond-true (is_for f code x) (Some x)
        (entry_of f code allow) t) ∙ is)) all.0
    go rest (inr t) =
        rest (sym (cond-false (is_for f code x) (Some x) (entry_of f code allow) t) ∙ is)

stretch_low : (targets : List Target) → AllByRecursion IsTarget targets
    → largest_stretch targets ≤ 6999
stretch_low [] k = omega arith
stretch_low (t ∷ targets) k = let rest = stretch_low targets k.1 in let one = k.0.stretch in
    omega (arith, rest, one)

lengths_low : (b : Board) (i : ℕ) (r : Transaction) → IsBoard b
    → Range.high (lengths_at b i r) ≤ 255
lengths_low b i r is = at_target (slice_get b.targets i) refl
  where
    at_entry : (t : Target) → slice_get b.targets i ≡ Some t → (o : Option Allow)
        → entry_of r.form (code_in r) t.allow ≡ o
        → Range.high (unwrap_or (option_map (λ (e : Allow). e.length) o) full_length) ≤ 255
    at_entry t there None e = omega arith
    at_entry t there (Some x) e =
        let good = found_entry IsEntry r.form (code_in r) t.allow x
        (recursion_from_All IsEntry t.allow (is_target b i t is there).entries) e in
        let k = good.in_length in omega (arith, k.below)

    at_target : (o : Option Target) → slice_get b.targets i ≡ o
        → Range.high (unwrap_or (option_map (λ (e : Allow). e.length)
        (option_and_then (λ (t : Target). entry_of r.form (code_in r) t.allow) o))
        full_length) ≤ 255
    at_target None e = omega arith
    at_target (Some t) e = at_entry t e (entry_of r.form (code_in r) t.allow) refl

ticks_low : (b : Board) (slots : ℕ) → largest_stretch b.targets ≤ 6999 → slots ≤ 4700
    → (1 ≤ frame_ticks b slots) × (frame_ticks b slots ≤ 536870912)
unfolding frame_ticks
ticks_low b slots s k =
    let m : slots * (3 + largest_stretch b.targets) ≤ 4700 * 7002 =
    mul-le-mul {m₂ = 7002} k (omega (arith, s)) in
    (omega arith, omega (arith, m))

-- blocks have at most 255 bytes
abbrev pub FitsBlocks : Transaction → Type 0
FitsBlocks x = block_count x.content ≤ 255

fits_blocks : (i : Instr) → IsInstr i → IfSome (request_in i) (λ s. FitsBlocks s.transaction)
fits_blocks (instr.BlockWrite t c bytes l) k = k.1.1
fits_blocks (instr.BlockCall t c bytes r l) k = let few = k.1.1 in omega (arith, few)
fits_blocks (instr.Quick t read l) k = omega arith
fits_blocks (instr.Send t c l) k = omega arith
fits_blocks (instr.Receive t r l) k = omega arith
fits_blocks (instr.Write t c v l) k = omega arith
fits_blocks (instr.Read t c w r l) k = omega arith
fits_blocks (instr.Call t c v r l) k = omega arith
fits_blocks (instr.BlockRead t c r l) k = omega arith
fits_blocks (instr.Alert r l) k = tt
fits_blocks (instr.IfAlert l) k = tt
fits_blocks (instr.Set r v) k = tt
fits_blocks (instr.Add r v) k = tt
fits_blocks (instr.If r m v l) k = tt
fits_blocks (instr.Above r v l) k = tt
fits_blocks (instr.Count c v) k = tt
fits_blocks (instr.Again c l) k = tt
fits_blocks (instr.Wait x) k = tt
fits_blocks (instr.Goto l) k = tt
fits_blocks instr.End k = tt
fits_blocks instr.Fail k = tt

form_low : (f : Form) (out back : ℕ) → out ≤ 255 → back ≤ 255 → most_slots f out back ≤ 4700
form_low (form.Quick reads) out back o k = omega arith
form_low form.SendByte out back o k = omega arith
form_low form.ReceiveByte out back o k = omega arith
form_low form.WriteByte out back o k = omega arith
form_low form.WriteWord out back o k = omega arith
form_low form.ReadByte out back o k = omega arith
form_low form.ReadWord out back o k = omega arith
form_low form.ProcessCall out back o k = omega arith
form_low form.BlockWrite out back o k = omega (arith, o)
form_low form.BlockRead out back o k = omega (arith, k)
form_low form.BlockProcessCall out back o k = omega (arith, o, k)
form_low form.Alert out back o k = omega arith

slots_low : (b : Board) (r : Request) → IsBoard b → FitsBlocks r.transaction
    → longest_slots b r ≤ 4700
slots_low b r is f =
    form_low (Transaction.form r.transaction) (block_count (Transaction.content r.transaction))
    (Range.high (lengths_at b r.target r.transaction)) f (lengths_low b r.target r.transaction is)

abbrev pub IsLow : ℕ → Type 0
IsLow ticks = (1 ≤ ticks) × (ticks ≤ 536870912)

other_low : (b : Board) (i : Instr) → IsBoard b → IsInstr i → IsLow (other_ticks b i)
other_low b (instr.Alert r l) is f =
    ticks_low b 19 (stretch_low b.targets (recursion_from_All IsTarget b.targets is.targets))
    (omega arith)
other_low b (instr.Wait t) is f = (omega arith, omega (arith, f.1))
other_low b (instr.Quick t read l) is f = (omega arith, omega arith)
other_low b (instr.Send t c l) is f = (omega arith, omega arith)
other_low b (instr.Receive t r l) is f = (omega arith, omega arith)
other_low b (instr.Write t c v l) is f = (omega arith, omega arith)
other_low b (instr.Read t c w r l) is f = (omega arith, omega arith)
other_low b (instr.Call t c v r l) is f = (omega arith, omega arith)
other_low b (instr.BlockWrite t c bytes l) is f = (omega arith, omega arith)
other_low b (instr.BlockRead t c r l) is f = (omega arith, omega arith)
other_low b (instr.BlockCall t c bytes r l) is f = (omega arith, omega arith)
other_low b (instr.IfAlert l) is f = (omega arith, omega arith)
other_low b (instr.Set r v) is f = (omega arith, omega arith)
other_low b (instr.Add r v) is f = (omega arith, omega arith)
other_low b (instr.If r m v l) is f = (omega arith, omega arith)
other_low b (instr.Above r v l) is f = (omega arith, omega arith)
other_low b (instr.Count c v) is f = (omega arith, omega arith)
other_low b (instr.Again c l) is f = (omega arith, omega arith)
other_low b (instr.Goto l) is f = (omega arith, omega arith)
other_low b instr.End is f = (omega arith, omega arith)
other_low b instr.Fail is f = (omega arith, omega arith)

of_low : (b : Board) (i : Instr) (o : Option Request) → IsBoard b → IsInstr i
    → IfSome o (λ s. FitsBlocks s.transaction) → IsLow (ticks_of b i o)
of_low b i None is f f' = other_low b i is f
of_low b i (Some s) is f f' =
    ticks_low b (longest_slots b s) (stretch_low b.targets (recursion_from_All IsTarget b.targets
    is.targets))
    (slots_low b s is f')

pub foreign_low : (b : Board) → IsBoard b → IsLow (foreign_ticks b)
foreign_low b is =
    let bytes = is.foreign_bytes in
    let stretch = is.foreign_stretch in
    let slots : contender_slot_count b.foreign_bytes ≤ 2305 = omega (arith, bytes) in
    let each : 3 + b.foreign_stretch ≤ 5002 = omega (arith, stretch) in
    let m : contender_slot_count b.foreign_bytes * (3 + b.foreign_stretch) ≤ 2305 * 5002 =
    mul-le-mul {m₂ = 5002} slots each in
    (omega arith, omega (arith, m))

pub own_low : (b : Board) (i : Instr) → IsBoard b → IsInstr i → IsLow (own_ticks b i)
own_low b i is f = of_low b i (request_in i) is f (fits_blocks i f)
