-- The slots of another controller that are held for no longer than a timeout are its one frame.
use Rattle.std.proofs.Common.{◌≡◌, ℕ, ◌+◌, ◌*◌, ◌%◌, ◌<◌, ◌≤◌, Bool, true, false, None, List, []}
use Rattle.std.proofs.Common.{◌∷◌, length, All, refl, sym, ap, subst, ◌∙◌, arith}
use Rattle.bit_bus.specs.declared.driving.TheConstants.{LONGEST_LOW}
use Rattle.std.specs.List.{AllByRecursion}
use Rattle.std.proofs.lemmas.Bool.{le-ltb}
use Rattle.std.proofs.lemmas.List.{length-append}
use Rattle.std.proofs.lemmas.List.Elements.{All-weaker, recursion_from_All}
use Rattle.wires.specs.declared.event.Event.{Event}
use Rattle.bit_bus.specs.declared.plan.Slot.{Slot}
use Rattle.bit_bus.specs.declared.plan.Slot.TheVariants.{End}
use Rattle.bit_bus.specs.Planned.{IsPlan}
use Rattle.bit_bus.specs.PlannedSlots.{SlotsAreKept, HoldsAreKept}
use Rattle.bit_bus.specs.Levels.{is_cut, first_cut}
use Rattle.bit_bus.specs.Word.{event_word}
use Rattle.smbus.specs.Shown.{Shown}
use Rattle.smbus.specs.OneFrame.{IsOnlyFrame}
use Rattle.smbus.specs.Protocol.{Piece, whole, sent, got, direction_bit, marks_of}
use Rattle.smbus.specs.Contenders.{Contender, byte_to, address_byte, contender_data}
use Rattle.smbus.specs.Contenders.{contender_pieces}
use Rattle.smbus.specs.Contenders.{contender_slots, contender_plan, contender_slot_count}
use Rattle.smbus.specs.Contenders.{taken, read_out, data_shown, contender_frame}
use Rattle.smbus.specs.ContenderLaws.{CanStart, IsToOneAddress, ContendersHaveOneFrame}
use Rattle.smbus.proofs.FirstBytes.{reads_first, begins}
use Rattle.smbus.proofs.StatesOfEvents.{Segments}
use Rattle.smbus.proofs.FrameMarks.{split, frame_of}
use Rattle.smbus.proofs.SmallPieces.{AreBytes}
use Rattle.smbus.proofs.MarksOut.{cut_from}
use Rattle.smbus.proofs.FirstCut.{Cuts}
use Rattle.smbus.proofs.MarkCounts.{mark_count, length-marks_of, count_sent, count_got}
use Rattle.smbus.proofs.SeenFrames.{same_whole}
use Rattle.smbus.proofs.OneFrameOfPieces.{Sees, pieces_cut, kept_length, pieces_plan, pieces_seen}

-- no slot is cut

pub uncut_from : (i : ℕ) (plan : List (Slot × ℕ)) → AllByRecursion (λ s. s.1 ≤ 4999) plan
    → cut_from i plan ≡ None
uncut_from i [] h = refl
uncut_from i (s ∷ later) h =
    let short : is_cut s.1 ≡ false = le-ltb 5000 (s.1 + 1) (let le = h.0 in omega arith) in
    rw short (uncut_from (i + 1) later h.1)

-- the pieces as the frame's one segment

split_sent : (bytes : List ℕ) → AreBytes bytes → split (sent bytes) ≡ (taken bytes, [])
split_sent [] h = refl
split_sent (b ∷ bytes) h =
    let e : b % 256 ≡ b = let lt = h.0 in omega arith in
    rw (e, split_sent bytes h.1) refl

split_got : (bytes : List ℕ) → AreBytes bytes → split (got bytes) ≡ (read_out bytes, [])
split_got [] h = refl
split_got (b ∷ []) h =
    let e : b % 256 ≡ b = let lt = h.0 in omega arith in
    rw e refl
split_got (b ∷ c ∷ bytes) h =
    let e : b % 256 ≡ b = let lt = h.0 in omega arith in
    rw (e, split_got (c ∷ bytes) h.1) refl

split_data : (c : Contender) (read : Bool) → c.read ≡ read → AreBytes c.bytes
    → split (contender_data c) ≡ (data_shown c, [])
split_data c true e h = rw e (split_got c.bytes h)
split_data c false e h = rw e (split_sent c.bytes h)

byte_small : (address : ℕ) (read : Bool) → address ≤ 127
    → (2 * address + direction_bit read) % 256 ≡ 2 * address + direction_bit read
byte_small address true le = omega arith
byte_small address false le = omega arith

abbrev from_address : ℕ → List (ℕ × Bool) × Segments → Shown
from_address byte later = record { segments = ((byte, true) ∷ later.0) ∷ later.1; tail = [] }

is_its_frame : (c : Contender) → CanStart c → frame_of (contender_pieces c) [] ≡ contender_frame c
is_its_frame c can =
    let h = recursion_from_All (λ b. b < 256) c.bytes can.bytes in
    let small = byte_small c.address c.read can.address in
    ap (from_address (address_byte c % 256)) (split_data c c.read refl h)
    ∙ ap (λ (byte : ℕ). from_address byte (data_shown c, [])) small

-- how many slots there are

count_data : (c : Contender) (read : Bool) → c.read ≡ read
    → mark_count (contender_data c) ≡ 9 * length c.bytes
count_data c true e = rw e (count_got c.bytes)
count_data c false e = rw e (count_sent c.bytes)

pub count_slots : (c : Contender)
    → length (contender_slots c) ≡ contender_slot_count (length c.bytes)
count_slots c =
    let d = count_data c c.read refl in
    let m = length-marks_of (contender_pieces c) in
    let a = length-append (marks_of (contender_pieces c)) (End ∷ []) in
    omega arith

-- none is cut, and the frame is the only one

no_timeout : (c : Contender) → CanStart c → All (λ (h : ℕ). h ≤ 4999) c.holds
no_timeout c can =
    All-weaker (λ (h : ℕ). h < LONGEST_LOW) (λ (h : ℕ). h ≤ 4999)
    (λ h lt. omega arith) c.holds can.holds

never_cut : HoldsAreKept → (c : Contender) → CanStart c → first_cut (contender_plan c) ≡ None
never_cut short c can =
    let held = no_timeout c can in
    uncut_from 0 (contender_plan c)
    (recursion_from_All (λ (s : Slot × ℕ). s.1 ≤ 4999) (contender_plan c)
    (short 4999 (contender_slots c) c.holds held))

only_its_frame : (c : Contender) → CanStart c → first_cut (contender_plan c) ≡ None
    → IsOnlyFrame (event_word (contender_plan c)) (contender_frame c)
only_its_frame c can uncut =
    let pieces : List Piece = contender_pieces c in
    let word : List Event = event_word (contender_plan c) in
    let s : Sees pieces c.holds = pieces_seen pieces c.holds in
    let shown = s.shown ∙ Cuts.all (pieces_cut pieces c.holds) uncut in
    let same = same_whole word s.frame pieces s.is_only shown in
    subst (λ (f : Shown). IsOnlyFrame word f) (sym same ∙ is_its_frame c can) s.is_only

is_plan : SlotsAreKept → HoldsAreKept → (c : Contender) → CanStart c → IsPlan (contender_plan c)
is_plan kept short c can =
    let few = can.few in
    let held =
    All-weaker (λ (h : ℕ). h ≤ 4999) (λ (h : ℕ). h ≤ 6999) (λ h le. omega arith) c.holds
    (no_timeout c can) in
    pieces_plan kept short (contender_pieces c) c.holds (rw (count_slots c) (omega arith)) held

-- a message that looks like it begins with its first byte

abbrev first_byte : Shown → ℕ
first_byte f = leading f.segments
  where
    leading : Segments → ℕ
    leading [] = 0
    leading ([] ∷ later) = 0
    leading ((b ∷ s) ∷ later) = b.0

same_address : (a d : ℕ) (read other : Bool) → a ≤ 127 → d ≤ 127
    → byte_to a read % 256 ≡ byte_to d other → a ≡ d
same_address a d true true la ld e = omega arith
same_address a d true false la ld e = omega arith
same_address a d false true la ld e = omega arith
same_address a d false false la ld e = omega arith

is_to_one_address : (c : Contender) → CanStart c
    → IsOnlyFrame (event_word (contender_plan c)) (contender_frame c) → IsToOneAddress c
is_to_one_address c can only m value block seven is =
    let first = begins m.form m.address m.code m.out value block in
    let same : frame_of (whole m value block) [] ≡ contender_frame c =
    same_whole (event_word (contender_plan c)) (contender_frame c) (whole m value block) only is in
    let begun = sym (ap (λ (pieces : List Piece). frame_of pieces []) first.1) ∙ same in
    let byte : byte_to m.address (reads_first m.form) % 256 ≡ address_byte c =
    ap first_byte begun in
    same_address m.address c.address (reads_first m.form) c.read seven can.address byte

pub contenders_have_one_frame : SlotsAreKept → HoldsAreKept → ContendersHaveOneFrame
contenders_have_one_frame kept short c can =
    let uncut = never_cut short c can in
    record {
      plan = is_plan kept short c can;
      uncut = uncut;
      slots = kept_length kept (contender_slots c) c.holds ∙ count_slots c;
      is_only = only_its_frame c can uncut;
      to = is_to_one_address c can (only_its_frame c can uncut);
    }
