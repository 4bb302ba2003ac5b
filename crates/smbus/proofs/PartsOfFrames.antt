-- A whole frame is the controller's first bytes, a repeated START with the address, if it has one,
-- and what is returned.
use Rattle.std.proofs.Common.{◌≡◌, ℕ, zero, suc, ◌+◌, ◌*◌, ◌<◌, ◌≤◌, Bool, true}
use Rattle.std.proofs.Common.{false, Option, Some, None, is_none, List, [], ◌∷◌, ◌++◌, length, take}
use Rattle.std.proofs.Common.{get_or, refl, sym, ap, subst, ◌∙◌, append_assoc, arith}
use Rattle.std.proofs.lemmas.Grind.{flat_map-append}
use Rattle.std.proofs.lemmas.List.{append-nil}
use Rattle.bit_bus.specs.declared.plan.Slot.{Slot}
use Rattle.smbus.specs.declared.message.Form.{Form}
use Rattle.smbus.specs.declared.message.Form.TheVariants.{Quick, SendByte, ReceiveByte, WriteByte}
use Rattle.smbus.specs.declared.message.Form.TheVariants.{WriteWord, ReadByte, ReadWord}
use Rattle.smbus.specs.declared.message.Form.TheVariants.{ProcessCall, BlockWrite, BlockRead}
use Rattle.smbus.specs.declared.message.Form.TheVariants.{BlockProcessCall, Alert}
use Rattle.smbus.specs.Asked.{Asked}
use Rattle.smbus.specs.Answered.{Answered}
use Rattle.smbus.specs.Protocol.{Piece, sent, got, whole_of, whole, refused_at, up_to_refused}
use Rattle.smbus.specs.Protocol.{sent_count, byte_marks, piece_marks, marks_of, IsNumbered}
use Rattle.smbus.specs.Protocol.Piece.{Sent, Refused, Repeat}
use Rattle.smbus.specs.Parts.{first_bytes_of, first_bytes, has_repeat, returned_bytes, rest_of}
use Rattle.smbus.specs.Parts.{IsAfter}
use Rattle.smbus.specs.Slots.{marks_sent}

-- the repeated START and the address after it
abbrev pub repeat_of : Bool → ℕ → List Piece
repeat_of true a = Repeat ∷ Sent (2 * a + 1) ∷ []
repeat_of false a = []

pub whole_parts : (form : Form) (a code : ℕ) (out : List ℕ) (value : ℕ) (block : List ℕ)
    → whole_of form a code out value block ≡ sent (first_bytes_of form a code out)
    ++ (repeat_of (has_repeat form) a ++ got (returned_bytes form value block))
whole_parts (Quick is_read) a code out value block = refl
whole_parts SendByte a code out value block = refl
whole_parts ReceiveByte a code out value block = refl
whole_parts WriteByte a code out value block =
    sym (append-nil (sent (first_bytes_of WriteByte a code out)))
whole_parts WriteWord a code out value block =
    sym (append-nil (sent (first_bytes_of WriteWord a code out)))
whole_parts ReadByte a code out value block = refl
whole_parts ReadWord a code out value block = refl
whole_parts ProcessCall a code out value block = refl
whole_parts BlockWrite a code out value block =
    sym (append-nil (sent (first_bytes_of BlockWrite a code out)))
whole_parts BlockRead a code out value block = refl
whole_parts BlockProcessCall a code out value block = refl
whole_parts Alert a code out value block = refl

-- a refusal among the first bytes
refused_first : (n : ℕ) (bytes : List ℕ) (later : List Piece) → n < length bytes
    → refused_at n (sent bytes ++ later) ≡ sent (take n bytes) ++ Refused (get_or bytes n 0) ∷ []
refused_first n [] later lt = absurd (omega arith)
refused_first zero (b ∷ bytes) later lt = refl
refused_first (suc n) (b ∷ bytes) later lt =
    ap (λ (l : List Piece). Sent b ∷ l) (refused_first n bytes later (omega arith))

-- a refusal of the byte after them
refused_next : (bytes : List ℕ) (b : ℕ) (later : List Piece)
    → refused_at (length bytes) (sent bytes ++ Repeat ∷ Sent b ∷ later)
    ≡ sent bytes ++ Repeat ∷ Refused b ∷ []
refused_next [] b later = refl
refused_next (c ∷ bytes) b later = ap (λ (l : List Piece). Sent c ∷ l) (refused_next bytes b later)

sent_count-sent : (bytes : List ℕ) (later : List Piece)
    → sent_count (sent bytes ++ later) ≡ length bytes + sent_count later
sent_count-sent [] later = omega arith
sent_count-sent (b ∷ bytes) later = let h = sent_count-sent bytes later in omega arith

sent_count-got : (bytes : List ℕ) → sent_count (got bytes) ≡ 0
sent_count-got [] = refl
sent_count-got (b ∷ []) = refl
sent_count-got (b ∷ c ∷ bytes) = sent_count-got (c ∷ bytes)

abbrev pub repeats_count : Bool → ℕ
repeats_count true = 1
repeats_count false = 0

sent_count-repeat : (repeats : Bool) (a : ℕ) (bytes : List ℕ)
    → sent_count (repeat_of repeats a ++ got bytes) ≡ repeats_count repeats
sent_count-repeat true a bytes = let h = sent_count-got bytes in omega arith
sent_count-repeat false a bytes = sent_count-got bytes

-- how many bytes the controller sends
pub sent_count-parts : (m : Asked) (value : ℕ) (block : List ℕ)
    → sent_count (whole m value block) ≡ length (first_bytes m) + repeats_count (has_repeat m.form)
sent_count-parts m value block =
    ap sent_count (whole_parts m.form m.address m.code m.out value block)
    ∙ sent_count-sent (first_bytes m)
    (repeat_of (has_repeat m.form) m.address ++ got (returned_bytes m.form value block))
    ∙ ap (λ (n : ℕ). length (first_bytes m) + n)
    (sent_count-repeat (has_repeat m.form) m.address (returned_bytes m.form value block))

marks-append : (a b : List Piece) → marks_of (a ++ b) ≡ marks_of a ++ marks_of b
marks-append a b = flat_map-append piece_marks a b

marks-parts : (m : Asked) (value : ℕ) (block : List ℕ) (repeats : Bool)
    → has_repeat m.form ≡ repeats
    → whole m value block ≡ sent (first_bytes m)
    ++ (repeat_of repeats m.address ++ got (returned_bytes m.form value block))
marks-parts m value block repeats e =
    whole_parts m.form m.address m.code m.out value block
    ∙ ap (λ (r : Bool).
    sent (first_bytes m) ++ (repeat_of r m.address ++ got (returned_bytes m.form value block))) e

-- the marks of a frame, by how far it goes

pub refused_in_first : (m : Asked) (n value : ℕ) (block : List ℕ) → n < length (first_bytes m)
    → marks_of (sent (take n (first_bytes m))) ++ byte_marks (get_or (first_bytes m) n 0) false
    ≡ marks_sent m (Some n) value block
refused_in_first m n value block lt =
    let later : List Piece =
    repeat_of (has_repeat m.form) m.address ++ got (returned_bytes m.form value block) in
    sym (
    ap (λ (l : List Piece). marks_of (refused_at n l))
    (marks-parts m value block (has_repeat m.form) refl)
    ∙ ap marks_of (refused_first n (first_bytes m) later lt)
    ∙ marks-append (sent (take n (first_bytes m))) (Refused (get_or (first_bytes m) n 0) ∷ [])
    ∙ ap (λ (l : List Slot). marks_of (sent (take n (first_bytes m))) ++ l)
    (append-nil (byte_marks (get_or (first_bytes m) n 0) false)))

-- without a repeated START the first bytes are all that can be refused
pub none_left : (m : Asked) (n value : ℕ) (block : List ℕ) → has_repeat m.form ≡ false
    → length (first_bytes m) ≤ n → n < sent_count (whole m value block) → ⊥
none_left m n value block e ge lt =
    let c : sent_count (whole m value block) ≡ length (first_bytes m) + repeats_count false =
    sent_count-parts m value block
    ∙ ap (λ (r : Bool). length (first_bytes m) + repeats_count r) e in
    omega arith

by_rest : (m : Asked) (n value : ℕ) (block : List ℕ) (repeats : Bool) → has_repeat m.form ≡ repeats
    → length (first_bytes m) ≤ n → n < sent_count (whole m value block)
    → refused_at n (whole m value block)
    ≡ sent (first_bytes m) ++ rest_of repeats false m.address (returned_bytes m.form value block)
by_rest m n value block true e ge lt =
    let c : sent_count (whole m value block) ≡ length (first_bytes m) + repeats_count true =
    sent_count-parts m value block
    ∙ ap (λ (r : Bool). length (first_bytes m) + repeats_count r) e in
    let same : n ≡ length (first_bytes m) = omega arith in
    ap (λ (l : List Piece). refused_at n l) (marks-parts m value block true e)
    ∙ ap (λ (k : ℕ). refused_at k (sent (first_bytes m) ++ Repeat ∷ Sent (2 * m.address + 1)
    ∷ got (returned_bytes m.form value block))) same
    ∙ refused_next (first_bytes m) (2 * m.address + 1) (got (returned_bytes m.form value block))
by_rest m n value block false e ge lt = absurd (none_left m n value block e ge lt)

whole_rest : (repeats : Bool) (a : ℕ) (bytes : List ℕ)
    → repeat_of repeats a ++ got bytes ≡ rest_of repeats true a bytes
whole_rest true a bytes = refl
whole_rest false a bytes = refl

-- a refusal after the first bytes, or none
pub rest_is : (m : Asked) (refuse : Option ℕ) (value : ℕ) (block : List ℕ)
    → IsNumbered refuse (sent_count (whole m value block)) → IsAfter refuse (length (first_bytes m))
    → up_to_refused refuse (whole m value block) ≡ sent (first_bytes m)
    ++ rest_of (has_repeat m.form) (is_none refuse) m.address (returned_bytes m.form value block)
rest_is m None value block lt ge =
    whole_parts m.form m.address m.code m.out value block
    ∙ ap (λ (l : List Piece). sent (first_bytes m) ++ l)
    (whole_rest (has_repeat m.form) m.address (returned_bytes m.form value block))
rest_is m (Some n) value block lt ge = by_rest m n value block (has_repeat m.form) refl ge lt

pub rest_marks : (m : Asked) (refuse : Option ℕ) (value : ℕ) (block : List ℕ)
    → IsNumbered refuse (sent_count (whole m value block)) → IsAfter refuse (length (first_bytes m))
    → marks_of (sent (first_bytes m)) ++ marks_of
    (rest_of (has_repeat m.form) (is_none refuse) m.address (returned_bytes m.form value block))
    ≡ marks_sent m refuse value block
rest_marks m refuse value block lt ge =
    let rest : List Piece =
    rest_of (has_repeat m.form) (is_none refuse) m.address (returned_bytes m.form value block) in
    sym (ap marks_of (rest_is m refuse value block lt ge)
    ∙ marks-append (sent (first_bytes m)) rest)

-- the same as what the code has pushed

pub refused_ends : (m : Asked) (a : Answered) (first : List ℕ) (n : ℕ) (old new : List Slot)
    → first ≡ first_bytes m → a.refuse ≡ Some n → n < length first
    → new ≡ (old ++ marks_of (sent (take n first))) ++ byte_marks (get_or first n 0) false
    → new ≡ old ++ marks_sent m a.refuse a.value a.bytes
refused_ends m a first n old new is refuse lt e =
    let lt' : n < length (first_bytes m) = subst (λ (l : List ℕ). n < length l) is lt in
    e
    ∙ append_assoc old (marks_of (sent (take n first))) (byte_marks (get_or first n 0) false)
    ∙ ap (λ (l : List ℕ). old ++ (marks_of (sent (take n l)) ++ byte_marks (get_or l n 0) false)) is
    ∙ ap (λ (l : List Slot). old ++ l) (refused_in_first m n a.value a.bytes lt')
    ∙ ap (λ (r : Option ℕ). old ++ marks_sent m r a.value a.bytes) (sym refuse)

pub rest_ends : (m : Asked) (a : Answered) (first : List ℕ) (old mid new : List Slot)
    → IsNumbered a.refuse (sent_count (whole m a.value a.bytes)) → first ≡ first_bytes m
    → IsAfter a.refuse (length first)
    → mid ≡ old ++ marks_of (sent first)
    → new ≡ mid ++ marks_of (rest_of (has_repeat m.form) (is_none a.refuse) m.address
    (returned_bytes m.form a.value a.bytes))
    → new ≡ old ++ marks_sent m a.refuse a.value a.bytes
rest_ends m a first old mid new lt is ge em e =
    let ge' : IsAfter a.refuse (length (first_bytes m)) =
    subst (λ (l : List ℕ). IsAfter a.refuse (length l)) is ge in
    let rest : List Slot = marks_of (rest_of (has_repeat m.form) (is_none a.refuse) m.address
    (returned_bytes m.form a.value a.bytes)) in
    e
    ∙ ap (λ (l : List Slot). l ++ rest) (em ∙ ap (λ (l : List ℕ). old ++ marks_of (sent l)) is)
    ∙ append_assoc old (marks_of (sent (first_bytes m))) rest
    ∙ ap (λ (l : List Slot). old ++ l) (rest_marks m a.refuse a.value a.bytes lt ge')

pub after_along : (refuse asked : Option ℕ) (count n : ℕ) → IsAfter refuse count → refuse ≡ asked
    → count ≡ n → IsAfter asked n
after_along refuse asked count n after same len =
    subst (λ (k : ℕ). IsAfter asked k) len (subst (λ (r : Option ℕ). IsAfter r count) same after)
