-- A word masked by 0840h is 0 exactly where bits 11 and 6 are 0.
use Rattle.std.proofs.Common.{◌≡◌, ℕ, ◌<◌, ◌^◌, Bool, true, false, ◌&&◌, ◌||◌, ◌==◌, not, ◌*◌, ◌⊎◌}
use Rattle.std.proofs.Common.{bit_and, min, refl, sym, ap, ◌∙◌, inl, inr, suc, zero, arith, lit<}
use Rattle.std.specs.Int.{bit_at}
use Rattle.std.proofs.lemmas.Nat.{and_le_r}
use Rattle.std.proofs.lemmas.Nat.Bits.{bit_at_and, bit_at-zero, same_from_bits_below, and_pow}
use Rattle.std.proofs.lemmas.Nat.Bits.{bit_at-lt}
use Rattle.pmbus_table.specs.Status.{reported_good}
use Rattle.std.proofs.lemmas.Bool.Decides.{nat_tests, Decides-below_and, Decides-eqb, Decides-or}
use Rattle.std.proofs.lemmas.Bool.Decides.{Decides-and, Decides-like, same_from_decides}

-- the mask has no bits below the 12th but these
abbrev is_clear : ℕ → Bool
is_clear i = (bit_at 0x0840 i == 0) || ((i == 11) || (i == 6))

abbrev are_clear : ℕ → Bool
are_clear zero = true
are_clear (suc n) = is_clear n && are_clear n

clear_bit : (i : ℕ) → i < 12 → (bit_at 0x0840 i ≡ 0) ⊎ ((i ≡ 11) ⊎ (i ≡ 6))
clear_bit =
    (Decides-below_and is_clear (λ i. (bit_at 0x0840 i ≡ 0) ⊎ ((i ≡ 11) ⊎ (i ≡ 6))) are_clear
    (λ i. Decides-or _ _ (Decides-eqb (bit_at 0x0840 i) 0)
    (Decides-or _ _ (Decides-eqb i 11) (Decides-eqb i 6))) refl (λ _. refl) 12).0 refl

least_right : (x y : ℕ) → y ≡ 0 → min x y ≡ 0
least_right x y e = omega arith

least_left : (x y : ℕ) → x ≡ 0 → min x y ≡ 0
least_left x y e = omega arith

masked : (word i : ℕ) → i < 12 → bit_at word 11 ≡ 0 → bit_at word 6 ≡ 0
    → bit_at (bit_and word 0x0840) i ≡ bit_at 0 i
masked word i h a b =
    let none = λ (e : min (bit_at word i) (bit_at 0x0840 i) ≡ 0).
    bit_at_and word 0x0840 i ∙ e ∙ sym (bit_at-zero i) in
    elim (clear_bit i h) [
      | inl e ↦ none (least_right _ _ e)
      | inr (inl e) ↦ none (least_left _ _ (ap (bit_at word) e ∙ a))
      | inr (inr e) ↦ none (least_left _ _ (ap (bit_at word) e ∙ b))
    ]

good_mask : (word : ℕ) → bit_at word 11 ≡ 0 → bit_at word 6 ≡ 0 → bit_and word 0x0840 ≡ 0
good_mask word a b =
    let few : bit_and word 0x0840 < 2 ^ 12 = omega (arith, and_le_r word 0x0840) in
    same_from_bits_below 12 (bit_and word 0x0840) 0 few (lit< tt) (λ i h. masked word i h a b)

least_zero : (x y : ℕ) → min x y ≡ 0 → y ≡ 1 → x ≡ 0
least_zero x y e m = omega arith

at_bit : (word i : ℕ) → bit_at 0x0840 i ≡ 1 → bit_and word 0x0840 ≡ 0 → bit_at word i ≡ 0
at_bit word i m e =
    least_zero _ _ (sym (bit_at_and word 0x0840 i) ∙ ap (λ (n : ℕ). bit_at n i) e ∙ bit_at-zero i) m

same_tests : (m a b : ℕ) → (m ≡ 0 → (a ≡ 0) × (b ≡ 0)) → (a ≡ 0 → b ≡ 0 → m ≡ 0)
    → ((a == 0) && (b == 0)) ≡ (m == 0)
same_tests m a b to back = same_from_decides _ _
    (Decides-like _ (λ p. back p.0 p.1) to (Decides-and _ _ (Decides-eqb a 0) (Decides-eqb b 0)))
    (Decides-eqb m 0)

pub good_by_mask : (word : ℕ) → reported_good word ≡ (bit_and word 0x0840 == 0)
good_by_mask word =
    same_tests _ _ _ (λ e. (at_bit word 11 refl e, at_bit word 6 refl e)) (good_mask word)

-- a flag that isn't contained is a bit of 0
no_flag : (m b n : ℕ) → m ≡ b * n → b < 2 → 0 < n → not (m == n) ≡ (b == 0)
no_flag m zero n e s p = grind (arith, nat_tests)
no_flag m (suc zero) n e s p = grind (arith, nat_tests)
no_flag m (suc (suc b)) n e s p = absurd (omega arith)

pub bit_11 : (word : ℕ) → not (bit_and word 2048 == 2048) ≡ (bit_at word 11 == 0)
bit_11 word = no_flag _ _ 2048 (and_pow word 11) (bit_at-lt word 11) (lit< tt)

pub bit_6 : (word : ℕ) → not (bit_and word 64 == 64) ≡ (bit_at word 6 == 0)
bit_6 word = no_flag _ _ 64 (and_pow word 6) (bit_at-lt word 6) (lit< tt)

-- the two tests in turn
pub second_test : (word : ℕ) (p q : Bool) → p ≡ (bit_and word 2048 == 2048)
    → q ≡ (bit_and word 64 == 64) → p ≡ false → not q ≡ reported_good word
second_test word p q e f t =
    (ap not f ∙ bit_6 word)
    ∙ ap (λ (b : Bool). b && (bit_at word 6 == 0)) (sym (ap not t) ∙ ap not e ∙ bit_11 word)

pub first_test : (word : ℕ) (p : Bool) → p ≡ (bit_and word 2048 == 2048) → p ≡ true
    → not p ≡ reported_good word
first_test word p e t =
    ap not t
    ∙ ap (λ (b : Bool). b && (bit_at word 6 == 0)) (sym (ap not t) ∙ ap not e ∙ bit_11 word)
