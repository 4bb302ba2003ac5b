-- When the data byte of a Write Byte has gone out.
use Rattle.std.proofs.Common.{◌≡◌, ℕ, ◌+◌, ◌*◌, ◌/◌, ◌≤◌, Option, Some, None, List, [], ◌∷◌, length}
use Rattle.std.proofs.Common.{refl, sym, ap, ◌∙◌, arith}
use Rattle.std.specs.Prelude.{◌↔◌, IfSome}
use Rattle.std.proofs.lemmas.List.{take_all, length-take}
use Rattle.smbus.specs.declared.message.Form.{Form}
use Rattle.smbus.specs.declared.message.Form.TheVariants.{WriteByte}
use Rattle.smbus.specs.Asked.{Asked}
use Rattle.smbus.specs.Answered.{Answered}
use Rattle.smbus.specs.Protocol.{whole_of}
use Rattle.smbus.specs.FirstSegment.{bytes_in, message_bytes, bytes_to, bytes_before}
use Rattle.smbus.specs.MessageFrame.{DataGoesOut}

abbrev three : ℕ → ℕ → ℕ → List ℕ
three p q v = p ∷ q ∷ v ∷ []

to_few : (refuse : Option ℕ) (bytes : List ℕ) → length (bytes_to refuse bytes) ≤ length bytes
to_few None bytes = omega arith
to_few (Some n) bytes = let l = length-take (n + 1) bytes in omega arith

before_few : (cut : Option ℕ) (bytes : List ℕ) → length (bytes_before cut bytes) ≤ length bytes
before_few None bytes = omega arith
before_few (Some slot) bytes = let l = length-take ((slot + 1) / 9) bytes in omega arith

-- all three only where no refusal and no cut comes before the third

late_refused : (refuse : Option ℕ) (bytes : List ℕ) → 3 ≤ length (bytes_to refuse bytes)
    → IfSome refuse (λ n. 2 ≤ n)
late_refused None bytes le = tt
late_refused (Some n) bytes le = let l = length-take (n + 1) bytes in omega arith

late_cut : (cut : Option ℕ) (bytes : List ℕ) → 3 ≤ length (bytes_before cut bytes)
    → IfSome cut (λ slot. 26 ≤ slot)
late_cut None bytes le = tt
late_cut (Some slot) bytes le = let l = length-take ((slot + 1) / 9) bytes in omega arith

to_three : (refuse : Option ℕ) (p q v : ℕ) → IfSome refuse (λ n. 2 ≤ n)
    → bytes_to refuse (three p q v) ≡ three p q v
to_three None p q v h = refl
to_three (Some n) p q v h = take_all (n + 1) (three p q v) (omega arith)

before_three : (cut : Option ℕ) (p q v : ℕ) → IfSome cut (λ slot. 26 ≤ slot)
    → bytes_before cut (three p q v) ≡ three p q v
before_three None p q v h = refl
before_three (Some slot) p q v h = take_all ((slot + 1) / 9) (three p q v) (omega arith)

goes_out : (refuse cut : Option ℕ) (p q v : ℕ)
    → bytes_before cut (bytes_to refuse (three p q v)) ≡ three p q v → DataGoesOut refuse cut
goes_out refuse cut p q v e =
    let all : length (bytes_before cut (bytes_to refuse (three p q v))) ≡ 3 = ap length e in
    let few = before_few cut (bytes_to refuse (three p q v)) in
    record {
      refused = late_refused refuse (three p q v) (omega arith);
      cut_late = late_cut cut (bytes_to refuse (three p q v)) (omega arith);
    }

went_out : (refuse cut : Option ℕ) (p q v : ℕ) → DataGoesOut refuse cut
    → bytes_before cut (bytes_to refuse (three p q v)) ≡ three p q v
went_out refuse cut p q v h =
    ap (bytes_before cut) (to_three refuse p q v h.refused) ∙ before_three cut p q v h.cut_late

bytes_of : (m : Asked) (a : Answered) (v : ℕ) → m.form ≡ WriteByte → m.out ≡ v ∷ []
    → message_bytes m a ≡ three (2 * m.address) m.code v
bytes_of m a v f o =
    ap (λ (form : Form). bytes_in (whole_of form m.address m.code m.out a.value a.bytes)) f
    ∙ ap (λ (out : List ℕ). bytes_in (whole_of WriteByte m.address m.code out a.value a.bytes)) o

pub writes_go_out : (m : Asked) (a : Answered) (cut : Option ℕ) (v : ℕ) (bytes : List ℕ)
    → bytes ≡ bytes_before cut (bytes_to a.refuse (message_bytes m a)) → m.form ≡ WriteByte
    → m.out ≡ v ∷ []
    → (bytes ≡ 2 * m.address ∷ m.code ∷ v ∷ []) ↔ DataGoesOut a.refuse cut
writes_go_out m a cut v bytes out f o =
    let e =
    out ∙ ap (λ (l : List ℕ). bytes_before cut (bytes_to a.refuse l)) (bytes_of m a v f o) in (
      λ all. goes_out a.refuse cut (2 * m.address) m.code v (sym e ∙ all),
      λ h. e ∙ went_out a.refuse cut (2 * m.address) m.code v h,
    )
