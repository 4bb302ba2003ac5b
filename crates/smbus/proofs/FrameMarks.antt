-- The frame of pieces and a tail, its marks and its word.
use Rattle.std.proofs.Common.{◌≡◌, ℕ, ◌%◌, ◌<◌, ◌≤◌, Bool, true, false, List, [], ◌∷◌, ◌++◌, length}
use Rattle.std.proofs.Common.{All, refl, sym, ap, ◌∙◌, append_assoc, arith}
use Rattle.std.specs.List.{flat_map}
use Rattle.std.proofs.lemmas.Grind.{flat_map-append}
use Rattle.std.proofs.lemmas.List.{map-append}
use Rattle.std.proofs.lemmas.Nat.{mod_below}
use Rattle.std.proofs.lemmas.List.Elements.{All-nil, All-cons}
use Rattle.wires.specs.declared.event.Event.{Event}
use Rattle.wires.specs.declared.event.Event.TheVariants.{Start, Stop, Rise}
use Rattle.bit_bus.specs.declared.plan.Slot.{Slot}
use Rattle.bit_bus.specs.declared.plan.Slot.TheVariants.{Bit, Again}
use Rattle.bit_bus.specs.Word.{slot_word}
use Rattle.smbus.specs.Shown.{Shown}
use Rattle.smbus.specs.Frames.{byte_bits, segment_bits, rises, segment_words, frame_word, IsFrame}
use Rattle.smbus.specs.Protocol.{Piece, bit_marks, marks_of}
use Rattle.smbus.specs.Protocol.Piece.{Sent, Refused, Got, Repeat}
use Rattle.smbus.specs.Whole.{segment_marks, shown_marks}
use Rattle.smbus.proofs.Bytes.{byte_bits-mod}
use Rattle.smbus.proofs.StatesOfEvents.{Segments, AreBytes}

-- the frame of pieces

abbrev pub split : List Piece → List (ℕ × Bool) × Segments
split [] = ([], [])
split (Sent b ∷ later) = ((b % 256, true) ∷ (split later).0, (split later).1)
split (Refused b ∷ later) = ((b % 256, false) ∷ (split later).0, (split later).1)
split (Got b more ∷ later) = ((b % 256, more) ∷ (split later).0, (split later).1)
split (Repeat ∷ later) = ([], (split later).0 ∷ (split later).1)

first_grows : (b : ℕ × Bool) (s : List (ℕ × Bool)) (later : Segments)
    → segment_marks ((b ∷ s) ∷ later) ≡ bit_marks (byte_bits b) ++ segment_marks (s ∷ later)
first_grows b s [] = map-append Bit (byte_bits b) (segment_bits s)
first_grows b s (t ∷ later) =
    ap (λ (l : List Slot). l ++ Again ∷ segment_marks (t ∷ later))
    (map-append Bit (byte_bits b) (segment_bits s))
    ∙ append_assoc (bit_marks (byte_bits b)) (bit_marks (segment_bits s))
    (Again ∷ segment_marks (t ∷ later))

byte_grows : (n : ℕ) (a : Bool) (later : List Piece)
    → segment_marks ((split later).0 ∷ (split later).1) ≡ marks_of later
    → segment_marks (((n % 256, a) ∷ (split later).0) ∷ (split later).1)
    ≡ bit_marks (byte_bits (n, a)) ++ marks_of later
byte_grows n a later e =
    first_grows (n % 256, a) (split later).0 (split later).1
    ∙ ap (λ (l : List Bool). bit_marks l ++ segment_marks ((split later).0 ∷ (split later).1))
    (byte_bits-mod n a)
    ∙ ap (λ (l : List Slot). bit_marks (byte_bits (n, a)) ++ l) e

pub segment_marks-split : (pieces : List Piece)
    → segment_marks ((split pieces).0 ∷ (split pieces).1) ≡ marks_of pieces
segment_marks-split [] = refl
segment_marks-split (Sent b ∷ later) = byte_grows b true later (segment_marks-split later)
segment_marks-split (Refused b ∷ later) = byte_grows b false later (segment_marks-split later)
segment_marks-split (Got b more ∷ later) = byte_grows b more later (segment_marks-split later)
segment_marks-split (Repeat ∷ later) = ap (λ (l : List Slot). Again ∷ l) (segment_marks-split later)

abbrev P : ℕ × Bool → Type 0
P b = b.0 < 256

pub record HasBytes (pieces : List Piece) : Type 0 where
  pub first : AreBytes (split pieces).0
  pub later : All AreBytes (split pieces).1

small : (n : ℕ) → n % 256 < 256
small n = mod_below n 256 (omega arith)

bytes-split : (pieces : List Piece) → HasBytes pieces
bytes-split [] = record { first = All-nil P; later = All-nil AreBytes }
bytes-split (Sent b ∷ later) =
    let r = bytes-split later in
    record { first = All-cons P (b % 256, true) (split later).0 (small b) r.first; later = r.later }
bytes-split (Refused b ∷ later) =
    let r = bytes-split later in
    record {
      first = All-cons P (b % 256, false) (split later).0 (small b) r.first;
      later = r.later;
    }
bytes-split (Got b more ∷ later) =
    let r = bytes-split later in
    record { first = All-cons P (b % 256, more) (split later).0 (small b) r.first; later = r.later }
bytes-split (Repeat ∷ later) =
    let r = bytes-split later in
    record {
      first = All-nil P;
      later = All-cons AreBytes (split later).0 (split later).1 r.first r.later;
    }

abbrev pub frame_of : List Piece → List Bool → Shown
frame_of pieces tail = record { segments = (split pieces).0 ∷ (split pieces).1; tail = tail }

pub is_frame : (pieces : List Piece) (tail : List Bool) → length tail ≤ 8
    → IsFrame (frame_of pieces tail)
is_frame pieces tail le =
    let r = bytes-split pieces in
    record {
      some = omega arith;
      bytes = All-cons AreBytes (split pieces).0 (split pieces).1 r.first r.later;
      tail = le;
    }

-- the word of a frame is that of its marks

bits_word : (bits : List Bool) → rises bits ≡ flat_map slot_word (bit_marks bits)
bits_word [] = refl
bits_word (b ∷ bits) = ap (λ (l : List Event). Rise b ∷ l) (bits_word bits)

segments_word : (segments : Segments)
    → segment_words segments ≡ flat_map slot_word (segment_marks segments)
segments_word [] = refl
segments_word (s ∷ []) = bits_word (segment_bits s)
segments_word (s ∷ t ∷ later) =
    ap (λ (l : List Event). l ++ Rise true ∷ Start ∷ segment_words (t ∷ later))
    (bits_word (segment_bits s))
    ∙ ap (λ (l : List Event). flat_map slot_word (bit_marks (segment_bits s)) ++ Rise true ∷ Start
    ∷ l) (segments_word (t ∷ later))
    ∙ sym
    (flat_map-append slot_word (bit_marks (segment_bits s)) (Again ∷ segment_marks (t ∷ later)))

pub frame_word-marks : (f : Shown)
    → frame_word f ≡ Start ∷ (flat_map slot_word (shown_marks f) ++ Rise false ∷ Stop ∷ [])
frame_word-marks f = ap (λ (l : List Event). Start ∷ (l ++ Rise false ∷ Stop ∷ []))
    (ap (λ (l : List Event). l ++ rises f.tail) (segments_word f.segments)
    ∙ ap (λ (l : List Event). flat_map slot_word (segment_marks f.segments) ++ l) (bits_word f.tail)
    ∙ sym (flat_map-append slot_word (segment_marks f.segments) (bit_marks f.tail)))
