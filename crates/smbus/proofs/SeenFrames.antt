-- The one frame of a plan, as the front of its message's pieces.
use Rattle.std.proofs.Common.{◌≡◌, ℕ, ◌-◌, ◌%◌, ◌<◌, ◌≤◌, Bool, true, false, Option, Some, None}
use Rattle.std.proofs.Common.{List, [], ◌∷◌, ◌++◌, map, length, take, refl, sym, ap, ◌∙◌, arith}
use Rattle.std.specs.List.{flat_map}
use Rattle.std.proofs.lemmas.List.{append-nil}
use Rattle.std.proofs.lemmas.List.Elements.{All-nil, All-cons}
use Rattle.wires.specs.declared.event.Event.{Event}
use Rattle.wires.specs.declared.event.Event.TheVariants.{Start, Stop, Rise}
use Rattle.bit_bus.specs.declared.plan.Slot.{Slot}
use Rattle.bit_bus.specs.Word.{slot_word}
use Rattle.smbus.specs.Shown.{Shown}
use Rattle.smbus.specs.Frames.{frame_word, IsFrame}
use Rattle.smbus.specs.Protocol.{Piece, bit_marks, marks_of}
use Rattle.smbus.specs.Protocol.Piece.{Sent, Refused, Got, Repeat}
use Rattle.smbus.specs.Whole.{shown_marks}
use Rattle.smbus.specs.OneFrame.{IsOnlyFrame}
use Rattle.smbus.specs.FirstSegment.{bytes_in, bytes_before, bytes_seen}
use Rattle.smbus.proofs.FrameMarks.{split, frame_of, segment_marks-split, is_frame}
use Rattle.smbus.proofs.FrameMarks.{frame_word-marks}
use Rattle.smbus.proofs.SmallPieces.{AreSmall}
use Rattle.smbus.proofs.Fronts.{Token, tokens, seen_in, front_of, IsByte, is_sent, is_refused}
use Rattle.smbus.proofs.Fronts.{is_got}
use Rattle.smbus.proofs.MarksOut.{marks_out, cut_from}
use Rattle.smbus.proofs.FirstCut.{Cuts}

-- a frame that has the marks of the only frame is that one

pub head_same : (f g : Shown) (xs ys : List Shown) → f ∷ xs ≡ g ∷ ys → f ≡ g
head_same f g xs ys e = cc

same_frame : (events : List Event) (f g : Shown) → IsOnlyFrame events f → IsFrame g
    → shown_marks g ≡ shown_marks f → g ≡ f
same_frame events f g o h e =
    let w : frame_word f ≡ frame_word g = frame_word-marks f
    ∙ ap (λ (l : List Slot). Start ∷ (flat_map slot_word l ++ Rise false ∷ Stop ∷ [])) (sym e)
    ∙ sym (frame_word-marks g) in
    head_same g f [] [] (o.only (g ∷ []) (record {
      each = All-cons IsFrame g [] h (All-nil IsFrame);
      words = o.is.words ∙ ap (λ (l : List Event). l ++ []) w;
    }))

same_pieces : (events : List Event) (f : Shown) (pieces : List Piece) (tail : List Bool)
    → IsOnlyFrame events f → length tail ≤ 8 → shown_marks f ≡ marks_of pieces ++ bit_marks tail
    → frame_of pieces tail ≡ f
same_pieces events f pieces tail o few e =
    same_frame events f (frame_of pieces tail) o (is_frame pieces tail few)
    (ap (λ (l : List Slot). l ++ bit_marks tail) (segment_marks-split pieces) ∙ sym e)

pub same_whole : (events : List Event) (f : Shown) (pieces : List Piece) → IsOnlyFrame events f
    → shown_marks f ≡ marks_of pieces → frame_of pieces [] ≡ f
same_whole events f pieces o e =
    same_pieces events f pieces [] o (omega arith) (e ∙ sym (append-nil (marks_of pieces)))

-- a frame's tokens are its pieces'

abbrev joined : List (List (ℕ × Bool)) → List Token
joined [] = []
joined (s ∷ []) = map Some s
joined (s ∷ t ∷ later) = map Some s ++ None ∷ joined (t ∷ later)

joined_more : (b : ℕ) (a : Bool) (s : List (ℕ × Bool)) (later : List (List (ℕ × Bool))) → b < 256
    → joined (((b % 256, a) ∷ s) ∷ later) ≡ Some (b, a) ∷ joined (s ∷ later)
joined_more b a s [] lt =
    let e : b % 256 ≡ b = omega arith in
    ap (λ (n : ℕ). Some (n, a) ∷ map Some s) e
joined_more b a s (t ∷ later) lt =
    let e : b % 256 ≡ b = omega arith in
    ap (λ (n : ℕ). Some (n, a) ∷ map Some s ++ None ∷ joined (t ∷ later)) e

joined_split : (pieces : List Piece) → AreSmall pieces
    → joined ((split pieces).0 ∷ (split pieces).1) ≡ tokens pieces
joined_split [] h = refl
joined_split (Sent b ∷ later) h =
    joined_more b true (split later).0 (split later).1 h.0
    ∙ ap (λ (l : List Token). Some (b, true) ∷ l) (joined_split later h.1)
joined_split (Refused b ∷ later) h =
    joined_more b false (split later).0 (split later).1 h.0
    ∙ ap (λ (l : List Token). Some (b, false) ∷ l) (joined_split later h.1)
joined_split (Got b more ∷ later) h =
    joined_more b more (split later).0 (split later).1 h.0
    ∙ ap (λ (l : List Token). Some (b, more) ∷ l) (joined_split later h.1)
joined_split (Repeat ∷ later) h = ap (λ (l : List Token). None ∷ l) (joined_split later h.1)

pub same_tokens : (a b : List Piece) (s t : List Bool) → AreSmall a → AreSmall b
    → frame_of a s ≡ frame_of b t → tokens a ≡ tokens b
same_tokens a b s t ha hb e =
    sym (joined_split a ha) ∙ ap (λ (f : Shown). joined f.segments) e ∙ joined_split b hb

-- the bytes of the first segment, where all went out

all_seen : (pieces : List Piece) → AreSmall pieces → seen_in pieces [] ≡ bytes_in pieces
all_seen [] h = refl
all_seen (Sent b ∷ later) h =
    IsByte.seen (is_sent b) later [] h.0 ∙ ap (λ (l : List ℕ). b ∷ l) (all_seen later h.1)
all_seen (Refused b ∷ later) h =
    IsByte.seen (is_refused b) later [] h.0 ∙ ap (λ (l : List ℕ). b ∷ l) (all_seen later h.1)
all_seen (Got b more ∷ later) h =
    IsByte.seen (is_got b more) later [] h.0 ∙ ap (λ (l : List ℕ). b ∷ l) (all_seen later h.1)
all_seen (Repeat ∷ later) h = refl

-- what of the pieces is seen in a frame

pub record Seen (pieces : List Piece) (cut : Option ℕ) (f : Shown) : Type 0 where
  pub front : List Piece
  pub tail : List Bool
  pub small : AreSmall front
  pub same : frame_of front tail ≡ f
  pub rest : List Token
  pub seen : tokens pieces ≡ tokens front ++ rest
  pub bytes : bytes_seen f ≡ bytes_before cut (bytes_in pieces)

seen_all : (events : List Event) (f : Shown) (pieces : List Piece) → IsOnlyFrame events f
    → AreSmall pieces → shown_marks f ≡ marks_of pieces → Seen pieces None f
seen_all events f pieces o small e =
    let same = same_whole events f pieces o e in
    record {
      front = pieces;
      tail = [];
      small = small;
      same = same;
      rest = [];
      seen = sym (append-nil (tokens pieces));
      bytes = ap bytes_seen (sym same) ∙ all_seen pieces small;
    }

seen_cut : (events : List Event) (f : Shown) (pieces : List Piece) (c : ℕ) → IsOnlyFrame events f
    → AreSmall pieces → shown_marks f ≡ take c (marks_of pieces) → Seen pieces (Some c) f
seen_cut events f pieces c o small e =
    let r = front_of pieces c in
    let same = same_pieces events f r.whole r.tail o r.few (e ∙ r.marks) in
    record {
      front = r.whole;
      tail = r.tail;
      small = r.small small;
      same = same;
      rest = r.rest;
      seen = r.seen;
      bytes = ap bytes_seen (sym same) ∙ r.bytes small;
    }

take_zero : (c : ℕ) (l : List Slot) → take (c - 0) l ≡ take c l
take_zero c l = let z : c - 0 ≡ c = omega arith in rw z refl

pub seen_of : (events : List Event) (f : Shown) (pieces : List Piece) (plan : List (Slot × ℕ))
    → IsOnlyFrame events f → AreSmall pieces → Cuts 0 (marks_of pieces) plan
    → shown_marks f ≡ marks_out plan
    → (cut : Option ℕ) → cut_from 0 plan ≡ cut → Seen pieces cut f
seen_of events f pieces plan o small k e None is = seen_all events f pieces o small (e ∙ k.all is)
seen_of events f pieces plan o small k e (Some c) is =
    seen_cut events f pieces c o small (e ∙ k.some c is ∙ take_zero c (marks_of pieces))
