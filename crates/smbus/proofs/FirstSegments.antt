-- The bytes of a message's first segment that go out, with a refused byte and a cut.
use Rattle.std.proofs.Common.{◌≡◌, ℕ, zero, suc, ◌+◌, ◌*◌, ◌/◌, ◌<◌, true, false, Option, Some}
use Rattle.std.proofs.Common.{None, List, [], ◌∷◌, ◌++◌, length, take, refl, ap, ◌∙◌, append_assoc}
use Rattle.std.proofs.Common.{arith}
use Rattle.smbus.specs.declared.message.Form.{Form}
use Rattle.smbus.specs.declared.message.Form.TheVariants.{Quick, SendByte, ReceiveByte, WriteByte}
use Rattle.smbus.specs.declared.message.Form.TheVariants.{WriteWord, ReadByte, ReadWord}
use Rattle.smbus.specs.declared.message.Form.TheVariants.{ProcessCall, BlockWrite, BlockRead}
use Rattle.smbus.specs.declared.message.Form.TheVariants.{BlockProcessCall, Alert}
use Rattle.smbus.specs.Protocol.{Piece, sent, read, low, high, whole_of, refused_at, sent_count}
use Rattle.smbus.specs.Protocol.{up_to_refused, IsNumbered}
use Rattle.smbus.specs.Protocol.Piece.{Repeat}
use Rattle.smbus.specs.FirstSegment.{bytes_in, bytes_to, bytes_before}

pub first_sent : (bytes : List ℕ) → bytes_in (sent bytes) ≡ bytes
first_sent [] = refl
first_sent (b ∷ bytes) = ap (λ (l : List ℕ). b ∷ l) (first_sent bytes)

-- with one byte refused

none_first : (l : List ℕ) → [] ≡ take 0 l
none_first [] = refl
none_first (x ∷ l) = refl

refused_sent : (n : ℕ) (bytes : List ℕ)
    → bytes_in (refused_at n (sent bytes)) ≡ take (n + 1) (bytes_in (sent bytes))
refused_sent zero [] = refl
refused_sent (suc n) [] = let e : suc n + 1 ≡ suc (n + 1) = omega arith in rw e refl
refused_sent zero (b ∷ bytes) = ap (λ (l : List ℕ). b ∷ l) (none_first (bytes_in (sent bytes)))
refused_sent (suc n) (b ∷ bytes) =
    let e : suc n + 1 ≡ suc (n + 1) = omega arith in
    rw e (ap (λ (l : List ℕ). b ∷ l) (refused_sent n bytes))

refused_repeat : (n : ℕ) (bytes : List ℕ) (later : List Piece)
    → bytes_in (refused_at n (sent bytes ++ Repeat ∷ later))
    ≡ take (n + 1) (bytes_in (sent bytes ++ Repeat ∷ later))
refused_repeat zero [] later = refl
refused_repeat (suc n) [] later = let e : suc n + 1 ≡ suc (n + 1) = omega arith in rw e refl
refused_repeat zero (b ∷ bytes) later =
    ap (λ (l : List ℕ). b ∷ l) (none_first (bytes_in (sent bytes ++ Repeat ∷ later)))
refused_repeat (suc n) (b ∷ bytes) later =
    let e : suc n + 1 ≡ suc (n + 1) = omega arith in
    rw e (ap (λ (l : List ℕ). b ∷ l) (refused_repeat n bytes later))

first_refused : (form : Form) (a code : ℕ) (out : List ℕ) (value : ℕ) (block : List ℕ) (n : ℕ)
    → n < sent_count (whole_of form a code out value block)
    → bytes_in (refused_at n (whole_of form a code out value block))
    ≡ take (n + 1) (bytes_in (whole_of form a code out value block))
first_refused (Quick true) a code out value block zero lt = refl
first_refused (Quick false) a code out value block zero lt = refl
first_refused (Quick true) a code out value block (suc n) lt = absurd (omega arith)
first_refused (Quick false) a code out value block (suc n) lt = absurd (omega arith)
first_refused SendByte a code out value block n lt = refused_sent n (2 * a ∷ code ∷ [])
first_refused ReceiveByte a code out value block zero lt = refl
first_refused ReceiveByte a code out value block (suc n) lt = absurd (omega arith)
first_refused WriteByte a code out value block n lt = refused_sent n (2 * a ∷ code ∷ out)
first_refused WriteWord a code out value block n lt = refused_sent n (2 * a ∷ code ∷ out)
first_refused ReadByte a code out value block n lt =
    refused_repeat n (2 * a ∷ code ∷ []) (read a (low value ∷ []))
first_refused ReadWord a code out value block n lt =
    refused_repeat n (2 * a ∷ code ∷ []) (read a (low value ∷ high value ∷ []))
first_refused ProcessCall a code out value block n lt =
    refused_repeat n (2 * a ∷ code ∷ out) (read a (low value ∷ high value ∷ []))
first_refused BlockWrite a code out value block n lt =
    refused_sent n (2 * a ∷ code ∷ length out ∷ out)
first_refused BlockRead a code out value block n lt =
    refused_repeat n (2 * a ∷ code ∷ []) (read a (length block ∷ block))
first_refused BlockProcessCall a code out value block n lt =
    refused_repeat n (2 * a ∷ code ∷ length out ∷ out) (read a (length block ∷ block))
first_refused Alert a code out value block zero lt = refl
first_refused Alert a code out value block (suc n) lt = absurd (omega arith)

pub first_up_to : (form : Form) (a code : ℕ) (out : List ℕ) (value : ℕ) (block : List ℕ)
    (refuse : Option ℕ) → IsNumbered refuse (sent_count (whole_of form a code out value block))
    → bytes_in (up_to_refused refuse (whole_of form a code out value block))
    ≡ bytes_to refuse (bytes_in (whole_of form a code out value block))
first_up_to form a code out value block None h = refl
first_up_to form a code out value block (Some n) h = first_refused form a code out value block n h

-- what goes out is a beginning

abbrev pub Rest : List ℕ → List ℕ → Type 0
Rest all front = (rest : List ℕ) × (all ≡ front ++ rest)

all_rest : (bytes : List ℕ) → Rest bytes bytes
all_rest [] = ([], refl)
all_rest (b ∷ bytes) = let r = all_rest bytes in (r.0, ap (λ (l : List ℕ). b ∷ l) r.1)

taken_rest : (n : ℕ) (bytes : List ℕ) → Rest bytes (take n bytes)
taken_rest zero [] = ([], refl)
taken_rest zero (b ∷ bytes) = (b ∷ bytes, refl)
taken_rest (suc n) [] = ([], refl)
taken_rest (suc n) (b ∷ bytes) = let r = taken_rest n bytes in (r.0, ap (λ (l : List ℕ). b ∷ l) r.1)

refused_rest : (refuse : Option ℕ) (bytes : List ℕ) → Rest bytes (bytes_to refuse bytes)
refused_rest None bytes = all_rest bytes
refused_rest (Some n) bytes = taken_rest (n + 1) bytes

cut_rest : (cut : Option ℕ) (bytes : List ℕ) → Rest bytes (bytes_before cut bytes)
cut_rest None bytes = all_rest bytes
cut_rest (Some slot) bytes = taken_rest ((slot + 1) / 9) bytes

pub out_rest : (refuse cut : Option ℕ) (bytes : List ℕ)
    → Rest bytes (bytes_before cut (bytes_to refuse bytes))
out_rest refuse cut bytes =
    let r = refused_rest refuse bytes in
    let c = cut_rest cut (bytes_to refuse bytes) in (
      c.0 ++ r.0,
      r.1 ∙ ap (λ (l : List ℕ). l ++ r.0) c.1
          ∙ append_assoc (bytes_before cut (bytes_to refuse bytes)) c.0 r.0,
    )
