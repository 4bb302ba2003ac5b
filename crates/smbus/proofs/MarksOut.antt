-- The marks of a plan that go out before its first cut.
use Rattle.std.proofs.Common.{◌≡◌, ◌≢◌, ℕ, zero, suc, ◌<◌, ◌≤◌, inl, inr, Bool, true, false, not}
use Rattle.std.proofs.Common.{if◌then◌else◌, Option, List, [], ◌∷◌, ◌++◌, length, take, refl, sym}
use Rattle.std.proofs.Common.{ap, ◌∙◌, arith}
use Rattle.std.specs.List.{AllByRecursion, flat_map, position_from}
use Rattle.std.proofs.lemmas.Bool.{cases_Bool}
use Rattle.std.proofs.lemmas.List.{append-nil, take-append-le, length-map}
use Rattle.wires.specs.Bits.{bits_of}
use Rattle.wires.specs.declared.event.Event.{Event}
use Rattle.wires.specs.declared.event.Event.TheVariants.{Start, Stop, Rise}
use Rattle.bit_bus.specs.declared.plan.Slot.{Slot}
use Rattle.bit_bus.specs.declared.plan.Slot.TheVariants.{Bit, Again, End}
use Rattle.bit_bus.specs.Planned.{planned}
use Rattle.bit_bus.specs.Levels.{is_cut}
use Rattle.bit_bus.specs.Word.{slot_word, slot_words}
use Rattle.smbus.specs.Frames.{byte_bits}
use Rattle.smbus.specs.Protocol.{Piece, refused_at, bit_marks, marks_of}
use Rattle.smbus.specs.Protocol.Piece.{Sent, Refused, Got, Repeat}
use Rattle.smbus.proofs.Bytes.{length-byte_bits}

abbrev pub marks_out : List (Slot × ℕ) → List Slot
marks_out [] = []
marks_out ((End, hold) ∷ later) = []
marks_out ((Bit sda, hold) ∷ later) = if is_cut hold then [] else Bit sda ∷ marks_out later
marks_out ((Again, hold) ∷ later) = if is_cut hold then [] else Again ∷ marks_out later

-- the first slot that is cut, where slots are numbered from i on
abbrev pub cut_from : ℕ → List (Slot × ℕ) → Option ℕ
cut_from i plan = position_from (λ (s : Slot × ℕ). is_cut s.1) i plan

abbrev pub NoEnd : List Slot → Type 0
NoEnd marks = AllByRecursion (λ s. s ≢ End) marks

no_end-append : (a b : List Slot) → NoEnd a → NoEnd b → NoEnd (a ++ b)
no_end-append [] b na nb = nb
no_end-append (s ∷ a) b na nb = (na.0, no_end-append a b na.1 nb)

no_end-bits : (bits : List Bool) → NoEnd (bit_marks bits)
no_end-bits [] = tt
no_end-bits (b ∷ bits) = (λ e. cc, no_end-bits bits)

pub no_end-pieces : (pieces : List Piece) → NoEnd (marks_of pieces)
no_end-pieces [] = tt
no_end-pieces (Sent b ∷ later) =
    no_end-append (bit_marks (byte_bits (b, true))) (marks_of later)
    (no_end-bits (byte_bits (b, true))) (no_end-pieces later)
no_end-pieces (Refused b ∷ later) =
    no_end-append (bit_marks (byte_bits (b, false))) (marks_of later)
    (no_end-bits (byte_bits (b, false))) (no_end-pieces later)
no_end-pieces (Got b more ∷ later) =
    no_end-append (bit_marks (byte_bits (b, more))) (marks_of later)
    (no_end-bits (byte_bits (b, more))) (no_end-pieces later)
no_end-pieces (Repeat ∷ later) = (λ e. cc, no_end-pieces later)

-- the word of a plan is that of the marks that go out, and a STOP

abbrev GoesOut : List (Slot × ℕ) → Type 0
GoesOut plan = slot_words plan ≡ flat_map slot_word (marks_out plan) ++ Rise false ∷ Stop ∷ []

end_out : (hold : ℕ) → GoesOut ((End, hold) ∷ [])
end_out hold = elim (cases_Bool (is_cut hold)) [ inl t ↦ rw t refl | inr f ↦ rw f refl ]

bit_out : (x : Bool) (hold : ℕ) (later : List (Slot × ℕ)) → GoesOut later
    → GoesOut ((Bit x, hold) ∷ later)
bit_out x hold later o = elim (cases_Bool (is_cut hold)) [
  | inl t ↦ rw t refl
  | inr f ↦ rw f (ap (λ (l : List Event). Rise x ∷ l) o)
]

again_out : (hold : ℕ) (later : List (Slot × ℕ)) → GoesOut later → GoesOut ((Again, hold) ∷ later)
again_out hold later o = elim (cases_Bool (is_cut hold)) [
  | inl t ↦ rw t refl
  | inr f ↦ rw f (ap (λ (l : List Event). Rise true ∷ Start ∷ l) o)
]

pub goes_out : (marks : List Slot) (holds : List ℕ) → NoEnd marks
    → GoesOut (planned (marks ++ End ∷ []) holds)
goes_out [] [] n = end_out 0
goes_out [] (h ∷ holds) n = end_out h
goes_out (Bit x ∷ marks) [] n = bit_out x 0 (planned (marks ++ End ∷ []) []) (goes_out marks [] n.1)
goes_out (Bit x ∷ marks) (h ∷ holds) n =
    bit_out x h (planned (marks ++ End ∷ []) holds) (goes_out marks holds n.1)
goes_out (Again ∷ marks) [] n = again_out 0 (planned (marks ++ End ∷ []) []) (goes_out marks [] n.1)
goes_out (Again ∷ marks) (h ∷ holds) n =
    again_out h (planned (marks ++ End ∷ []) holds) (goes_out marks holds n.1)
goes_out (End ∷ marks) holds n = absurd (n.0 refl)

-- up to the acknowledge that is missing, a refused frame is the whole one

take_both : (a m n : List Slot) (k : ℕ) → ((j : ℕ) → j < length m → take j m ≡ take j n)
    → k < length (a ++ m) → take k (a ++ m) ≡ take k (a ++ n)
take_both [] m n k h lt = h k lt
take_both (x ∷ a) m n zero h lt = refl
take_both (x ∷ a) m n (suc k) h lt =
    ap (λ (l : List Slot). x ∷ l) (take_both a m n k h (omega arith))

byte_front : (b : ℕ) (a : Bool) (more : List Slot) (k : ℕ) → k ≤ 8
    → take k (bit_marks (byte_bits (b, a)) ++ more) ≡ take k (bit_marks (bits_of 8 b))
unfolding byte_bits
byte_front b a more k le =
    take-append-le k (bit_marks (bits_of 8 b)) (bit_marks (not a ∷ []) ++ more) le

pub refused_front : (n : ℕ) (pieces : List Piece) (k : ℕ)
    → k < length (marks_of (refused_at n pieces))
    → take k (marks_of (refused_at n pieces)) ≡ take k (marks_of pieces)
refused_front n [] k lt = refl
refused_front zero (Sent b ∷ later) k lt =
    let l : length (bit_marks (byte_bits (b, false)) ++ []) ≡ 9 =
    ap length (append-nil (bit_marks (byte_bits (b, false))))
    ∙ length-map (byte_bits (b, false)) Bit ∙ length-byte_bits (b, false) in
    byte_front b false [] k (omega arith) ∙ sym (byte_front b true (marks_of later) k (omega arith))
refused_front (suc n) (Sent b ∷ later) k lt =
    take_both (bit_marks (byte_bits (b, true))) (marks_of (refused_at n later)) (marks_of later) k
    (refused_front n later) lt
refused_front zero (Refused b ∷ later) k lt =
    let l : length (bit_marks (byte_bits (b, false)) ++ []) ≡ 9 =
    ap length (append-nil (bit_marks (byte_bits (b, false))))
    ∙ length-map (byte_bits (b, false)) Bit ∙ length-byte_bits (b, false) in
    byte_front b false [] k (omega arith)
    ∙ sym (byte_front b false (marks_of later) k (omega arith))
refused_front (suc n) (Refused b ∷ later) k lt =
    let l : length (bit_marks (byte_bits (b, false)) ++ []) ≡ 9 =
    ap length (append-nil (bit_marks (byte_bits (b, false))))
    ∙ length-map (byte_bits (b, false)) Bit ∙ length-byte_bits (b, false) in
    byte_front b false [] k (omega arith)
    ∙ sym (byte_front b false (marks_of later) k (omega arith))
refused_front zero (Got b more ∷ later) k lt =
    take_both (bit_marks (byte_bits (b, more))) (marks_of (refused_at zero later))
    (marks_of later) k (refused_front zero later) lt
refused_front (suc n) (Got b more ∷ later) k lt =
    take_both (bit_marks (byte_bits (b, more))) (marks_of (refused_at (suc n) later))
    (marks_of later) k (refused_front (suc n) later) lt
refused_front zero (Repeat ∷ later) k lt =
    take_both (Again ∷ []) (marks_of (refused_at zero later)) (marks_of later) k
    (refused_front zero later) lt
refused_front (suc n) (Repeat ∷ later) k lt =
    take_both (Again ∷ []) (marks_of (refused_at (suc n) later)) (marks_of later) k
    (refused_front (suc n) later) lt
