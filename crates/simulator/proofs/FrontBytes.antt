-- What a message is whose first bytes went out, and which bytes go out of a message.
use Rattle.std.proofs.Common.{◌≡◌, ℕ, ◌*◌, ◌≤◌, true, false, List, [], ◌∷◌, ◌++◌, length, IsTrue}
use Rattle.std.proofs.Common.{refl, sym, ap, ◌∙◌, append_assoc, length-append, ◌+◌, arith}
use Rattle.std.proofs.lemmas.List.{append-nil}
use Rattle.smbus.specs.declared.message.Form.{Form}
use Rattle.smbus.specs.declared.message.Form.TheVariants as form
use Rattle.smbus.specs.Asked.{Asked}
use Rattle.smbus.specs.Answered.{Answered}
use Rattle.smbus.specs.Protocol.{sent, whole_of}
use Rattle.smbus.specs.FirstSegment.{bytes_in, message_bytes, bytes_out}
use Rattle.simulator.specs.Does.{IsFrontOfBytes}
use Rattle.simulator.specs.StepDoes.{writes_data}

-- a front that went out begins the message
pub message_begins : (m : Asked) (a : Answered) (front : List ℕ)
    → IsFrontOfBytes (bytes_out m a) (message_bytes m a)
    → IsFrontOfBytes front (bytes_out m a) → IsFrontOfBytes front (message_bytes m a)
message_begins m a front all o =
    (o.0 ++ all.0, all.1 ∙ ap (λ (l : List ℕ). l ++ all.0) o.1 ∙ append_assoc front o.0 all.0)

-- as many bytes as went out of a beginning went out with it
goes_out : (front more seen rest : List ℕ) → front ++ more ≡ seen ++ rest
    → length front ≤ length seen → IsFrontOfBytes front seen
goes_out [] more seen rest e le = (seen, refl)
goes_out (x ∷ front) more [] rest e le = absurd (omega arith)
goes_out (x ∷ front) more (y ∷ seen) rest e le =
    let same : x ∷ (front ++ more) ≡ y ∷ (seen ++ rest) = e in
    let first : x ≡ y = cc in
    let later : front ++ more ≡ seen ++ rest = cc in
    let r = goes_out front more seen rest later (omega arith) in
    (r.0, ap (λ (b : ℕ). b ∷ seen) (sym first) ∙ ap (λ (l : List ℕ). x ∷ l) r.1)

pub front_goes_out : (m : Asked) (a : Answered) (front : List ℕ)
    → IsFrontOfBytes (bytes_out m a) (message_bytes m a)
    → IsFrontOfBytes front (message_bytes m a) → length front ≤ length (bytes_out m a)
    → IsFrontOfBytes front (bytes_out m a)
front_goes_out m a front all o le =
    goes_out front o.0 (bytes_out m a) all.0 (sym o.1 ∙ all.1) le

-- a message that begins with three bytes writes data after its code
pub record IsDataWrite (f : Form) (address code x y : ℕ) : Type 0 where
  pub writes : IsTrue (writes_data f)
  pub first : 2 * address ≡ x
  pub second : code ≡ y

pub three_bytes : (f : Form) (address code : ℕ) (out : List ℕ) (value : ℕ) (block : List ℕ)
    (x y z : ℕ) (more : List ℕ)
    → bytes_in (whole_of f address code out value block) ≡ x ∷ y ∷ z ∷ more
    → IsDataWrite f address code x y
three_bytes (form.Quick true) address code out value block x y z more e = cc
three_bytes (form.Quick false) address code out value block x y z more e = cc
three_bytes form.SendByte address code out value block x y z more e = cc
three_bytes form.ReceiveByte address code out value block x y z more e = cc
three_bytes form.WriteByte address code out value block x y z more e =
    record { writes = refl; first = cc; second = cc }
three_bytes form.WriteWord address code out value block x y z more e =
    record { writes = refl; first = cc; second = cc }
three_bytes form.ReadByte address code out value block x y z more e = cc
three_bytes form.ReadWord address code out value block x y z more e = cc
three_bytes form.ProcessCall address code out value block x y z more e =
    record { writes = refl; first = cc; second = cc }
three_bytes form.BlockWrite address code out value block x y z more e =
    record { writes = refl; first = cc; second = cc }
three_bytes form.BlockRead address code out value block x y z more e = cc
three_bytes form.BlockProcessCall address code out value block x y z more e =
    record { writes = refl; first = cc; second = cc }
three_bytes form.Alert address code out value block x y z more e = cc

-- and one that writes data begins with its address and its code
abbrev Begun : ℕ → ℕ → List ℕ → Type 0
Begun address code bytes = IsFrontOfBytes (2 * address ∷ code ∷ []) bytes

pub address_and_code : (f : Form) (address code : ℕ) (out : List ℕ) (value : ℕ) (block : List ℕ)
    → IsTrue (writes_data f)
    → Begun address code (bytes_in (whole_of f address code out value block))
address_and_code (form.Quick r) address code out value block w = cc
address_and_code form.SendByte address code out value block w = cc
address_and_code form.ReceiveByte address code out value block w = cc
address_and_code form.WriteByte address code out value block w = (bytes_in (sent out), refl)
address_and_code form.WriteWord address code out value block w = (bytes_in (sent out), refl)
address_and_code form.ReadByte address code out value block w = cc
address_and_code form.ReadWord address code out value block w = cc
address_and_code form.ProcessCall address code out value block w = (_, refl)
address_and_code form.BlockWrite address code out value block w = (_, refl)
address_and_code form.BlockRead address code out value block w = cc
address_and_code form.BlockProcessCall address code out value block w = (_, refl)
address_and_code form.Alert address code out value block w = cc

sent_bytes : (bytes : List ℕ) → bytes_in (sent bytes) ≡ bytes
sent_bytes [] = refl
sent_bytes (b ∷ bytes) = ap (λ (l : List ℕ). b ∷ l) (sent_bytes bytes)

-- a form that sends its data bytes right after the code, and nothing else
abbrev pub IsPlain : Form → Type 0
IsPlain f = (address code : ℕ) (out : List ℕ) (value : ℕ) (block : List ℕ)
    → bytes_in (whole_of f address code out value block) ≡ 2 * address ∷ code ∷ bytes_in (sent out)

pub plain_bytes : (f : Form) (m : Asked) (a : Answered) → IsPlain f → m.form ≡ f
    → message_bytes m a ≡ 2 * m.address ∷ m.code ∷ m.out
plain_bytes f m a plain is =
    ap (λ (x : Form). bytes_in (whole_of x m.address m.code m.out a.value a.bytes)) is
    ∙ plain m.address m.code m.out a.value a.bytes
    ∙ ap (λ (l : List ℕ). 2 * m.address ∷ m.code ∷ l) (sent_bytes m.out)

-- a front is no longer than the whole, and as long only where it is the whole
pub front_length : (front bytes : List ℕ) → IsFrontOfBytes front bytes → length front ≤ length bytes
front_length front bytes o =
    let l : length bytes ≡ length front + length o.0 = ap length o.1 ∙ length-append front o.0 in
    omega arith

pub whole_front : (front bytes : List ℕ) → IsFrontOfBytes front bytes → length bytes ≡ length front
    → bytes ≡ front
whole_front front bytes o same =
    let l : length bytes ≡ length front + length o.0 = ap length o.1 ∙ length-append front o.0 in
    o.1 ∙ ap (λ (rest : List ℕ). front ++ rest) (no_length o.0 (omega arith)) ∙ append-nil front
  where
    no_length : (rest : List ℕ) → length rest ≡ 0 → rest ≡ []
    no_length [] e = refl
    no_length (x ∷ rest) e = absurd (omega arith)
