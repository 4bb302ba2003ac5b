-- The other values of an answer line are read back.
use Rattle.std.proofs.Common.{◌≡◌, ◌≤◌, ◌<◌, ℕ, ◌+◌, ◌*◌, ◌/◌, ◌%◌, Bool, true, false, ◌==◌}
use Rattle.std.proofs.Common.{List, [], ◌∷◌, length, All, Option, Some, None, option_map}
use Rattle.std.proofs.Common.{option_and_then, nat_lt, inl, inr, refl, sym, ap, ◌∙◌}
use Rattle.std.proofs.Common.{arith, lit<}
use Rattle.std.specs.Prelude.{IfSome}
use Rattle.std.specs.Fmt.{decimal, digits}
use Rattle.std.proofs.lemmas.Bool.{cases_Bool, and_from, lt-ltb, eqb-true}
use Rattle.std.proofs.lemmas.List.Folds.{list_all-append}
use Rattle.texts.specs.Hex.{pair_of, pair_text, pairs_of, pairs_text}
use Rattle.texts.specs.ReadBack.{BytesReadBack, DecimalsReadBack}
use Rattle.smbus.specs.Contenders.{Contender, address_byte}
use Rattle.smbus.specs.Protocol.{direction_bit}
use Rattle.bundles.specs.AnswerLines.{took_of}
use Rattle.bundles.specs.AnswerLineTexts.{holds_value, number_value, bytes_value, took_value}
use Rattle.bundles.specs.AnswerLineTexts.{contender_text}
use Rattle.bundles.specs.AnswerTexts.{AreSayable}
use Rattle.bundles.specs.ContenderWords.{contender_from, contender_said, contender_of, with_holds}
use Rattle.bundles.specs.Fields.{refuse_of, number_of, bytes_of}
use Rattle.bundles.specs.WrittenWords.{IsTypedContender}
use Rattle.bundles.proofs.CutParts.{are_above, all_above_less, sides_back}
use Rattle.bundles.proofs.Numerals.{decimal_above, number_above, number_back, pair_above}
use Rattle.bundles.proofs.Numerals.{pair_without_colon, pairs_above, NumbersReadBack}
use Rattle.bundles.proofs.SaidHolds.{holds_back, holds_above}

-- ---- what is read

pub refuse_back : DecimalsReadBack → (refuse : Option ℕ) → IfSome refuse (λ number. number ≤ 65535)
    → refuse_of (option_map decimal refuse) ≡ Some refuse
refuse_back reads None few = refl
refuse_back reads (Some number) few =
    ap (option_map Some) (reads 65535 number few (lit< tt))

pub number_said : (number : ℕ) → number < 65536 → number_of (number_value number) ≡ Some number
number_said number small = elim (cases_Bool (number == 0)) [
  | inl t ↦ rw t (ap Some (sym (eqb-true number 0 t)))
  | inr f ↦ rw f (number_back number small)
]

pub bytes_back : BytesReadBack → (bytes : List ℕ) → All (λ byte. byte < 256) bytes
    → bytes_of (bytes_value bytes) ≡ Some bytes
bytes_back reads [] small = refl
bytes_back reads (byte ∷ later) small =
    let some : nat_lt 0 (length (pairs_text (byte ∷ later))) ≡ true =
    lt-ltb 0 (length (pairs_text (byte ∷ later))) (omega arith) in
    rw some (reads (byte ∷ later) small)

pub took_back : (took : Bool) → took_of (took_value took) ≡ Some took
took_back true = refl
took_back false = refl

-- ---- another controller

byte_small : (address : ℕ) (read : Bool) → address ≤ 127 → 2 * address + direction_bit read < 256
byte_small address true le = omega (arith, le)
byte_small address false le = omega (arith, le)

address_back : (address : ℕ) (read : Bool) → (2 * address + direction_bit read) / 2 ≡ address
address_back address true = omega arith
address_back address false = omega arith

one_is : (n : ℕ) → n ≡ 1 → (n == 1) ≡ true
one_is n e = rw e refl

none_is_one : (n : ℕ) → n ≡ 0 → (n == 1) ≡ false
none_is_one n e = rw e refl

read_back : (address : ℕ) (read : Bool) → ((2 * address + direction_bit read) % 2 == 1) ≡ read
read_back address true = one_is _ (omega arith)
read_back address false = none_is_one _ (omega arith)

abbrev from_parts : ℕ → Bool → List ℕ → List ℕ → Contender
from_parts address read bytes holds =
    record { address = address; read = read; bytes = bytes; holds = holds }

controller_back : NumbersReadBack → (c : Contender) → IsTypedContender c
    → contender_said (contender_text c) ≡ Some (contender_from (address_byte c) c.bytes)
unfolding contender_said
controller_back reads c t =
    let small : address_byte c < 256 = byte_small c.address c.read t.address in
    ap (option_and_then (λ (sides : List ℕ × List ℕ). option_and_then (λ byte.
    option_map (contender_from byte) (pairs_of sides.1)) (pair_of sides.0)))
    (sides_back 58 (pair_text (address_byte c)) (pairs_text c.bytes)
    (pair_without_colon (address_byte c) small))
    ∙ ap
    (option_and_then (λ byte. option_map (contender_from byte) (pairs_of (pairs_text c.bytes))))
    (reads.pair (address_byte c) small)
    ∙ ap (option_map (contender_from (address_byte c))) (reads.bytes c.bytes t.bytes)

pub contender_back : NumbersReadBack → (other : Option Contender) → IfSome other IsTypedContender
    → IfSome other (λ c. AreSayable c.holds)
    → option_and_then (λ said. with_holds said
    (option_and_then (λ (c : Contender). holds_value c.holds) other))
    (contender_of (option_map contender_text other)) ≡ Some other
contender_back reads None typed sayable = refl
contender_back reads (Some c) typed sayable =
    ap (λ (o : Option Contender). option_and_then (λ said. with_holds said (holds_value c.holds))
    (option_map Some o)) (controller_back reads c typed)
    ∙ ap (option_map (λ holds. Some (from_parts (address_byte c / 2) (address_byte c % 2 == 1)
    c.bytes holds))) (holds_back reads.decimal c.holds sayable)
    ∙ ap
    (λ (address : ℕ). Some (Some (from_parts address (address_byte c % 2 == 1) c.bytes c.holds)))
    (address_back c.address c.read)
    ∙ ap (λ (read : Bool). Some (Some (from_parts c.address read c.bytes c.holds)))
    (read_back c.address c.read)

-- ---- the bytes of the values

abbrev pub value_above : Option (List ℕ) → Bool
value_above None = true
value_above (Some value) = are_above 37 value

lower : (text : List ℕ) → are_above 44 text ≡ true → are_above 37 text ≡ true
lower text t = all_above_less 37 44 (omega arith) text t

pub holds_value_above : (holds : List ℕ) → AreSayable holds
    → value_above (holds_value holds) ≡ true
holds_value_above [] s = refl
holds_value_above (hold ∷ later) s = holds_above hold later s

pub refuse_above : (refuse : Option ℕ) → IfSome refuse (λ number. number ≤ 65535)
    → value_above (option_map decimal refuse) ≡ true
refuse_above None few = refl
refuse_above (Some number) few =
    lower (decimal number) (decimal_above number (omega (arith, few)))

pub number_value_above : (number : ℕ) → number < 65536 → value_above (number_value number) ≡ true
number_value_above number small = elim (cases_Bool (number == 0)) [
  | inl t ↦ rw t refl
  | inr f ↦ rw f (lower (digits 16 true number) (number_above number small))
]

pub bytes_value_above : (bytes : List ℕ) → All (λ byte. byte < 256) bytes
    → value_above (bytes_value bytes) ≡ true
bytes_value_above [] small = refl
bytes_value_above (byte ∷ later) small =
    lower (pairs_text (byte ∷ later)) (pairs_above (byte ∷ later) small)

pub took_above : (took : Bool) → value_above (took_value took) ≡ true
took_above true = refl
took_above false = refl

pub contender_above : (other : Option Contender) → IfSome other IsTypedContender
    → value_above (option_map contender_text other) ≡ true
contender_above None typed = refl
contender_above (Some c) typed =
    let small : address_byte c < 256 = byte_small c.address c.read typed.address in
    lower (contender_text c) (list_all-append (λ b. nat_lt 44 b) (pair_text (address_byte c))
    (58 ∷ pairs_text c.bytes)
    ∙ and_from _ _ (pair_above (address_byte c) small) (pairs_above c.bytes typed.bytes))

pub other_holds_above : (other : Option Contender) → IfSome other (λ c. AreSayable c.holds)
    → value_above (option_and_then (λ (c : Contender). holds_value c.holds) other) ≡ true
other_holds_above None sayable = refl
other_holds_above (Some c) sayable = holds_value_above c.holds sayable
