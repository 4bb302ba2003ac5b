-- The slots of a Read Word.
use Rattle.std.proofs.Common.{◌≡◌, inl, inr, ◌∙◌, ℕ, Option, Some}
use Rattle.std.proofs.Common.{List}
use Rattle.std.proofs.Common.{length, refl, ap, sym, arith}
use Rattle.std.specs.Prelude.{IsTrue, ◌==◌, ◌↔◌}
use Rattle.std.proofs.lemmas.Bool.Decides.{nat_tests}
use Rattle.smbus.specs.MessageFrame.{IsCutLate}
use Rattle.smbus.specs.declared.message.Form.{Form}
use Rattle.smbus.specs.declared.message.Form.TheVariants.{ReadWord}
use Rattle.smbus.specs.Asked.{Asked}
use Rattle.smbus.specs.Frames.{byte_bits}
use Rattle.smbus.specs.Protocol.{marks_of, whole, whole_of}

word_marks : (address code value : ℕ) (out block : List ℕ)
    → length (marks_of (whole_of ReadWord address code out value block)) ≡ 46
unfolding byte_bits
word_marks address code value out block = refl

pub marks_before_stop : (m : Asked) (value : ℕ) (block : List ℕ) → m.form ≡ ReadWord
    → length (marks_of (whole m value block)) ≡ 46
marks_before_stop m value block form =
    ap (λ (x : Form). length (marks_of (whole_of x m.address m.code m.out value block))) form
    ∙ word_marks m.address m.code value m.out block

is_at : (slot n : ℕ) → IsTrue (slot == n) → slot ≡ n
is_at slot n t = Prim.grind (arith, nat_tests)

at' : (slot n : ℕ) → slot ≡ n → IsTrue (slot == n)
at' slot n e = Prim.grind (arith, nat_tests)

pub cut_in_stop : (marks slot : ℕ) (cut : Option ℕ) → marks ≡ 46 → cut ≡ Some slot
    → IsTrue (slot == 46) ↔ IsCutLate cut marks
cut_in_stop marks slot cut few is = (to, from)
  where
    to : IsTrue (slot == 46) → IsCutLate cut marks
    to t = inr (is ∙ ap Some (is_at slot 46 t ∙ sym few))

    from : IsCutLate cut marks → IsTrue (slot == 46)
    from (inl none) = absurd (cc (none, is))
    from (inr some) = at' slot 46 (cc (some, is, few))
