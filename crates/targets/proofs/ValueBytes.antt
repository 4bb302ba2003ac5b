-- A Write Byte's value is its third byte, and goes out where neither of the first two is refused
-- and no slot before the value's acknowledge is cut.
use Rattle.std.proofs.Common.{◌≡◌, ◌≤◌, ◌<◌, ◌+◌, ◌/◌, ◌↔◌, ◌&&◌, ◌∙◌, ℕ, Bool, true, false}
use Rattle.std.proofs.Common.{IsTrue, Option, Some, None, List, length, take, min, refl, ap, arith}
use Rattle.std.proofs.lemmas.Bool.{lt-ltb, ltb-true}
use Rattle.std.proofs.lemmas.List.{length-take}
use Rattle.smbus.specs.declared.message.Form.{Form}
use Rattle.smbus.specs.declared.message.Form.TheVariants.{WriteByte}
use Rattle.smbus.specs.Asked.{Asked}
use Rattle.smbus.specs.Answered.{Answered}
use Rattle.smbus.specs.FirstSegment.{bytes_in, bytes_to, bytes_before, bytes_out, message_bytes}
use Rattle.smbus.specs.Protocol.{whole_of}
use Rattle.targets.specs.Effects.{IsByteWrite}
use Rattle.targets.specs.WriteSlots.{reaches_value, cuts_after_value}
use Rattle.targets.specs.Outcomes.{cut_of}

three_bytes : (address code value : ℕ) (m : Asked) (a : Answered) → IsByteWrite address code value m
    → length (message_bytes m a) ≡ 3
three_bytes address code value m a k =
    ap (λ (x : Form). length (bytes_in (whole_of x m.address m.code m.out a.value a.bytes))) k.form
    ∙ ap (λ (out : List ℕ). length (bytes_in (whole_of WriteByte m.address m.code out a.value
    a.bytes))) k.content

-- of three bytes the last goes out
reaches : (refuse : Option ℕ) (bytes : List ℕ) → length bytes ≡ 3
    → reaches_value refuse ≡ true → length (bytes_to refuse bytes) ≡ 3
reaches None bytes three t = three
reaches (Some n) bytes three t =
    let l : length (take (n + 1) bytes) ≡ min (n + 1) (length bytes) = length-take (n + 1) bytes in
    let less : 1 < n = ltb-true 1 n t in
    omega (arith, l, three, less)

reached : (refuse : Option ℕ) (bytes : List ℕ) → length bytes ≡ 3
    → 3 ≤ length (bytes_to refuse bytes) → reaches_value refuse ≡ true
reached None bytes three k = refl
reached (Some n) bytes three k =
    let l : length (take (n + 1) bytes) ≡ min (n + 1) (length bytes) = length-take (n + 1) bytes in
    let less : 1 < n = omega (arith, l, three, k) in
    lt-ltb 1 n less

before : (cut : Option ℕ) (bytes : List ℕ) → length bytes ≡ 3
    → cuts_after_value cut ≡ true → 3 ≤ length (bytes_before cut bytes)
before None bytes three t = omega (arith, three)
before (Some slot) bytes three t =
    let l : length (take ((slot + 1) / 9) bytes) ≡ min ((slot + 1) / 9) (length bytes) =
    length-take ((slot + 1) / 9) bytes in
    let less : 25 < slot = ltb-true 25 slot t in
    omega (arith, l, three, less)

cut_behind : (cut : Option ℕ) (bytes : List ℕ) → length bytes ≤ 3
    → 3 ≤ length (bytes_before cut bytes) → cuts_after_value cut ≡ true
cut_behind None bytes few k = refl
cut_behind (Some slot) bytes few k =
    let l : length (take ((slot + 1) / 9) bytes) ≡ min ((slot + 1) / 9) (length bytes) =
    length-take ((slot + 1) / 9) bytes in
    let less : 25 < slot = omega (arith, l, few, k) in
    lt-ltb 25 slot less

fewer : (cut : Option ℕ) (bytes : List ℕ) → length (bytes_before cut bytes) ≤ length bytes
fewer None bytes = omega arith
fewer (Some slot) bytes =
    let l : length (take ((slot + 1) / 9) bytes) ≡ min ((slot + 1) / 9) (length bytes) =
    length-take ((slot + 1) / 9) bytes in
    omega (arith, l)

at_most : (refuse : Option ℕ) (bytes : List ℕ) → length (bytes_to refuse bytes) ≤ length bytes
at_most None bytes = omega arith
at_most (Some n) bytes =
    let l : length (take (n + 1) bytes) ≡ min (n + 1) (length bytes) = length-take (n + 1) bytes in
    omega (arith, l)

both : (a b : Bool) → (a && b) ≡ true → (a ≡ true) × (b ≡ true)
both true true e = (refl, refl)
both true false e = cc
both false b e = cc

pub value_byte : (address code value : ℕ) (m : Asked) (a : Answered)
    → IsByteWrite address code value m
    → IsTrue (reaches_value a.refuse && cuts_after_value (cut_of m a))
    ↔ (3 ≤ length (bytes_out m a))
value_byte address code value m a w = (out, within)
  where
    bytes : List ℕ
    bytes = message_bytes m a

    three : length (message_bytes m a) ≡ 3
    three = three_bytes address code value m a w

    out : IsTrue (reaches_value a.refuse && cuts_after_value (cut_of m a))
        → 3 ≤ length (bytes_out m a)
    out t =
        let parts = both (reaches_value a.refuse) (cuts_after_value (cut_of m a)) t in
        before (cut_of m a) (bytes_to a.refuse (message_bytes m a))
        (reaches a.refuse (message_bytes m a) three parts.0) parts.1

    within : 3 ≤ length (bytes_out m a)
        → IsTrue (reaches_value a.refuse && cuts_after_value (cut_of m a))
    within k =
        let most = at_most a.refuse (message_bytes m a) in
        let few = fewer (cut_of m a) (bytes_to a.refuse (message_bytes m a)) in
        let r : reaches_value a.refuse ≡ true =
        reached a.refuse (message_bytes m a) three (omega (arith, k, few)) in
        let c : cuts_after_value (cut_of m a) ≡ true =
        cut_behind (cut_of m a) (bytes_to a.refuse (message_bytes m a))
        (omega (arith, most, three)) k in
        rw (r, c) refl
