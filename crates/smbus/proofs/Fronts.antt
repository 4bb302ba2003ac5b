-- The front of the marks of pieces is that of pieces and a tail, with the bytes that it shows.
use Rattle.std.proofs.Common.{◌≡◌, ℕ, zero, suc, ◌+◌, ◌-◌, ◌/◌, ◌%◌, ◌<◌, ◌≤◌, ◌==◌, inl, inr, Bool}
use Rattle.std.proofs.Common.{true, false, Option, Some, None, List, [], ◌∷◌, ◌++◌, length, take}
use Rattle.std.proofs.Common.{refl, sym, ap, ◌∙◌, append_assoc, arith}
use Rattle.std.proofs.lemmas.Bool.{cases_lt}
use Rattle.std.proofs.lemmas.Bool.Decides.{nat_tests}
use Rattle.std.proofs.lemmas.List.{length-take, take-append-le, take-map, length-map}
use Rattle.wires.specs.Bits.{bits_of, number_of}
use Rattle.bit_bus.specs.declared.plan.Slot.{Slot}
use Rattle.bit_bus.specs.declared.plan.Slot.TheVariants.{Bit, Again}
use Rattle.smbus.specs.Frames.{byte_bits}
use Rattle.smbus.specs.Protocol.{Piece, bit_marks, piece_marks, marks_of}
use Rattle.smbus.specs.Protocol.Piece.{Sent, Refused, Got, Repeat}
use Rattle.smbus.specs.FirstSegment.{bytes_in, bytes_before, tail_byte, bytes_among}
use Rattle.smbus.proofs.Bytes.{length-byte_bits, number_of-bits_of}
use Rattle.smbus.proofs.FrameMarks.{split}
use Rattle.smbus.proofs.SmallPieces.{IsSmall, AreSmall}

take_past : {X : Type 0} (a b : List X) (k : ℕ) → take (length a + k) (a ++ b) ≡ a ++ take k b
take_past [] b k = let e : 0 + k ≡ k = omega arith in rw e refl
take_past (x ∷ a) b k =
    let e : suc (length a) + k ≡ suc (length a + k) = omega arith in
    rw e (ap (λ l. x ∷ l) (take_past a b k))

-- what is seen of a piece: a byte with its acknowledge, or a repeated START
abbrev pub Token : Type 0
Token = Option (ℕ × Bool)

abbrev pub tokens : List Piece → List Token
tokens [] = []
tokens (Sent b ∷ later) = Some (b, true) ∷ tokens later
tokens (Refused b ∷ later) = Some (b, false) ∷ tokens later
tokens (Got b more ∷ later) = Some (b, more) ∷ tokens later
tokens (Repeat ∷ later) = None ∷ tokens later

-- the bytes that are seen of pieces and a tail
abbrev pub seen_in : List Piece → List Bool → List ℕ
seen_in pieces tail = bytes_among ((split pieces).0 ∷ (split pieces).1) tail

pub record Front (n : ℕ) (pieces : List Piece) : Type 0 where
  pub whole : List Piece
  pub tail : List Bool
  pub few : length tail ≤ 8
  pub marks : take n (marks_of pieces) ≡ marks_of whole ++ bit_marks tail
  pub rest : List Token
  pub seen : tokens pieces ≡ tokens whole ++ rest
  pub small : AreSmall pieces → AreSmall whole
  pub bytes : AreSmall pieces → seen_in whole tail ≡ bytes_before (Some n) (bytes_in pieces)

-- bytes before a cut

none_taken : (k : ℕ) (bytes : List ℕ) → k ≡ 0 → take k bytes ≡ []
none_taken k [] e = rw e refl
none_taken k (b ∷ bytes) e = rw e refl

of_none : (k : ℕ) → [] ≡ take k (let none : List ℕ = [] in none)
of_none zero = refl
of_none (suc k) = refl

less_than_eight : (n : ℕ) (bytes : List ℕ) → n < 8 → [] ≡ bytes_before (Some n) bytes
less_than_eight n bytes lt = sym (none_taken ((n + 1) / 9) bytes (omega arith))

one_byte : (n b : ℕ) (bytes : List ℕ) → n ≡ 8 → b ∷ [] ≡ bytes_before (Some n) (b ∷ bytes)
one_byte n b bytes e =
    let one : (n + 1) / 9 ≡ suc zero = omega arith in
    sym (ap (λ (k : ℕ). take k (b ∷ bytes)) one
    ∙ ap (λ (l : List ℕ). b ∷ l) (none_taken zero bytes refl))

byte_more : (n b : ℕ) (later : List ℕ) → 9 ≤ n
    → b ∷ bytes_before (Some (n - 9)) later ≡ bytes_before (Some n) (b ∷ later)
byte_more n b later ge =
    let e : (n + 1) / 9 ≡ suc ((n - 9 + 1) / 9) = omega arith in
    sym (ap (λ (k : ℕ). take k (b ∷ later)) e)

-- the tail of a byte

eq_false : (m n : ℕ) → m < n → (m == n) ≡ false
eq_false m n lt = grind (arith, nat_tests)

tail_few : (bits : List Bool) → length bits < 8 → tail_byte bits ≡ []
tail_few bits lt = rw (eq_false (length bits) 8 lt) refl

eight : (b : ℕ × Bool) → b.0 < 256 → number_of (take 8 (byte_bits b)) ≡ b.0
unfolding byte_bits
eight b lt =
    let n : number_of (bits_of 8 b.0) ≡ b.0 % 256 = number_of-bits_of 8 b.0 in
    n ∙ omega arith

tail_eight : (n : ℕ) (b : ℕ × Bool) → n ≡ 8 → b.0 < 256
    → tail_byte (take n (byte_bits b)) ≡ b.0 ∷ []
tail_eight n b is lt =
    let l = length-byte_bits b in
    let e : length (take 8 (byte_bits b)) ≡ 8 = simp length-take (omega arith) in
    rw (is, e) (ap (λ (x : ℕ). x ∷ []) (eight b lt))

short_bytes : (n : ℕ) (b : ℕ × Bool) (later : List ℕ) → b.0 < 256 → n < 9
    → tail_byte (take n (byte_bits b)) ≡ bytes_before (Some n) (b.0 ∷ later)
short_bytes n b later small lt =
    let l = length-byte_bits b in
    elim (cases_lt n 8) [
      | inl less ↦
          let e : length (take n (byte_bits b)) < 8 = simp length-take (omega arith) in
          tail_few (take n (byte_bits b)) e ∙ less_than_eight n (b.0 ∷ later) less
      | inr ge ↦ let e : n ≡ 8 = omega arith in tail_eight n b e small ∙ one_byte n b.0 later e
    ]

-- a piece that is a byte

pub record IsByte (p : Piece) (b : ℕ × Bool) : Type 0 where
  pub marks : piece_marks p ≡ bit_marks (byte_bits b)
  pub small : IsSmall p → b.0 < 256
  pub token : (later : List Piece) → tokens (p ∷ later) ≡ Some b ∷ tokens later
  pub first : (later : List Piece) → bytes_in (p ∷ later) ≡ b.0 ∷ bytes_in later
  pub seen : (later : List Piece) (tail : List Bool) → IsSmall p
      → seen_in (p ∷ later) tail ≡ b.0 ∷ seen_in later tail

first_more : (n : ℕ) (a : Bool) (s : List (ℕ × Bool)) (later : List (List (ℕ × Bool)))
    (tail : List Bool) → n < 256
    → bytes_among (((n % 256, a) ∷ s) ∷ later) tail ≡ n ∷ bytes_among (s ∷ later) tail
first_more n a s [] tail lt =
    let e : n % 256 ≡ n = omega arith in
    ap (λ (k : ℕ). k ∷ bytes_among (s ∷ []) tail) e
first_more n a s (t ∷ later) tail lt =
    let e : n % 256 ≡ n = omega arith in
    ap (λ (k : ℕ). k ∷ bytes_among (s ∷ t ∷ later) tail) e

pub is_sent : (b : ℕ) → IsByte (Sent b) (b, true)
is_sent b = record {
  marks = refl;
  small = λ h. h;
  token = λ later. refl;
  first = λ later. refl;
  seen = λ later tail h. first_more b true (split later).0 (split later).1 tail h;
}

pub is_refused : (b : ℕ) → IsByte (Refused b) (b, false)
is_refused b = record {
  marks = refl;
  small = λ h. h;
  token = λ later. refl;
  first = λ later. refl;
  seen = λ later tail h. first_more b false (split later).0 (split later).1 tail h;
}

pub is_got : (b : ℕ) (more : Bool) → IsByte (Got b more) (b, more)
is_got b more = record {
  marks = refl;
  small = λ h. h;
  token = λ later. refl;
  first = λ later. refl;
  seen = λ later tail h. first_more b more (split later).0 (split later).1 tail h;
}

-- the fronts

front_nil : (n : ℕ) → take n (marks_of []) ≡ [] → Front n []
front_nil n e = record {
  whole = [];
  tail = [];
  few = omega arith;
  marks = e;
  rest = [];
  seen = refl;
  small = λ h. tt;
  bytes = λ h. of_none ((n + 1) / 9);
}

front_short : (n : ℕ) (p : Piece) (b : ℕ × Bool) (later : List Piece) → IsByte p b → n < 9
    → Front n (p ∷ later)
front_short n p b later is lt =
    let l = length-byte_bits b in
    let lm : length (bit_marks (byte_bits b)) ≡ 9 = length-map (byte_bits b) Bit ∙ l in
    record {
      whole = [];
      tail = take n (byte_bits b);
      few = simp length-take (omega arith);
      marks =
          ap (λ (m : List Slot). take n (m ++ marks_of later)) is.marks
          ∙ take-append-le n (bit_marks (byte_bits b)) (marks_of later) (omega arith)
          ∙ take-map Bit n (byte_bits b);
      rest = tokens (p ∷ later);
      seen = refl;
      small = λ h. tt;
      bytes = λ h.
          short_bytes n b (bytes_in later) (is.small h.0) lt
          ∙ ap (bytes_before (Some n)) (sym (is.first later));
    }

front_byte : (n : ℕ) (p : Piece) (b : ℕ × Bool) (later : List Piece) → IsByte p b → 9 ≤ n
    → Front (n - 9) later → Front n (p ∷ later)
front_byte n p b later is ge f =
    let l = length-byte_bits b in
    let lm : length (bit_marks (byte_bits b)) ≡ 9 = length-map (byte_bits b) Bit ∙ l in
    let k : n ≡ length (bit_marks (byte_bits b)) + (n - 9) = omega arith in
    record {
      whole = p ∷ f.whole;
      tail = f.tail;
      few = f.few;
      marks = ap (λ (m : List Slot). take n (m ++ marks_of later)) is.marks
          ∙ ap (λ (j : ℕ). take j (bit_marks (byte_bits b) ++ marks_of later)) k
          ∙ take_past (bit_marks (byte_bits b)) (marks_of later) (n - 9)
          ∙ ap (λ (m : List Slot). bit_marks (byte_bits b) ++ m) f.marks
          ∙ sym (append_assoc (bit_marks (byte_bits b)) (marks_of f.whole) (bit_marks f.tail))
          ∙ ap (λ (m : List Slot). m ++ marks_of f.whole ++ bit_marks f.tail) (sym is.marks);
      rest = f.rest;
      seen =
          is.token later ∙ ap (λ (l : List Token). Some b ∷ l) f.seen
          ∙ ap (λ (l : List Token). l ++ f.rest) (sym (is.token f.whole));
      small = λ h. (h.0, f.small h.1);
      bytes = λ h.
          is.seen f.whole f.tail h.0 ∙ ap (λ (l : List ℕ). b.0 ∷ l) (f.bytes h.1)
          ∙ byte_more n b.0 (bytes_in later) ge ∙ ap (bytes_before (Some n)) (sym (is.first later));
    }

front_next : (n : ℕ) (p : Piece) (b : ℕ × Bool) (later : List Piece) → IsByte p b
    → Front (n - 9) later → Front n (p ∷ later)
front_next n p b later is f = elim (cases_lt n 9) [
  | inl lt ↦ front_short n p b later is lt
  | inr ge ↦ front_byte n p b later is ge f
]

front_again : (n : ℕ) (later : List Piece) → Front n later → Front (suc n) (Repeat ∷ later)
front_again n later f = record {
  whole = Repeat ∷ f.whole;
  tail = f.tail;
  few = f.few;
  marks = ap (λ (m : List Slot). Again ∷ m) f.marks;
  rest = f.rest;
  seen = ap (λ (l : List Token). None ∷ l) f.seen;
  small = λ h. (tt, f.small h.1);
  bytes = λ h. of_none ((suc n + 1) / 9);
}

pub front_of : (pieces : List Piece) (n : ℕ) → Front n pieces
front_of [] zero = front_nil zero refl
front_of [] (suc n) = front_nil (suc n) refl
front_of (Sent b ∷ later) n =
    front_next n (Sent b) (b, true) later (is_sent b) (front_of later (n - 9))
front_of (Refused b ∷ later) n =
    front_next n (Refused b) (b, false) later (is_refused b) (front_of later (n - 9))
front_of (Got b more ∷ later) n =
    front_next n (Got b more) (b, more) later (is_got b more) (front_of later (n - 9))
front_of (Repeat ∷ later) zero = record {
  whole = [];
  tail = [];
  few = omega arith;
  marks = refl;
  rest = tokens (Repeat ∷ later);
  seen = refl;
  small = λ h. tt;
  bytes = λ h. refl;
}
front_of (Repeat ∷ later) (suc n) = front_again n later (front_of later n)
