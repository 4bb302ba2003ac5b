-- Holds that are written are read back.
use Rattle.std.proofs.Common.{◌≡◌, ◌≤◌, ◌<◌, ℕ, ◌+◌, ◌-◌, zero, suc, true, false, ◌==◌}
use Rattle.std.proofs.Common.{List, [], ◌∷◌, ◌++◌, length, replicate, All, Option, Some}
use Rattle.std.proofs.Common.{option_map, option_and_then, inl, inr, refl, sym, ap}
use Rattle.std.proofs.Common.{◌∙◌, append_assoc, arith, lit<, nat_lt}
use Rattle.std.specs.List.{list_all, slice_split, join_with_byte}
use Rattle.std.specs.Fmt.{decimal}
use Rattle.std.proofs.lemmas.Bool.{cases_Bool, and_from, le-leb, eqb-true}
use Rattle.std.proofs.lemmas.List.{append-nil, length-append, length-replicate}
use Rattle.std.proofs.lemmas.List.Elements.{All-head, All-tail}
use Rattle.std.proofs.lemmas.List.Folds.{list_all-append}
use Rattle.texts.specs.Decimal.{decimal_within}
use Rattle.texts.specs.ReadBack.{DecimalsReadBack}
use Rattle.bundles.specs.Holds.{hold_of, holds_of}
use Rattle.bundles.specs.HoldsRead.{with_hold, holds_from}
use Rattle.bundles.specs.AnswerLineTexts.{hold_text, held_texts, holds_value}
use Rattle.bundles.specs.AnswerTexts.{ends_held, AreSayable}
use Rattle.bundles.proofs.HoldsLaw.{holds_from_named}
use Rattle.bundles.proofs.CutParts.{are_above, sides_back, some_parts_back, joined_above}
use Rattle.bundles.proofs.CutParts.{all_above_less, weaker}
use Rattle.bundles.proofs.Numerals.{decimal_above, decimal_without_colon}

-- ---- one slot

slot_back : DecimalsReadBack → (slot hold : ℕ) → slot ≤ 4095 → hold ≤ 6999
    → hold_of (hold_text (slot, hold)) ≡ Some (slot, hold)
slot_back reads slot hold s h =
    ap (option_and_then (λ (sides : List ℕ × List ℕ). option_and_then (λ slot.
    option_map (λ hold. (slot, hold)) (decimal_within 6999 sides.1)) (decimal_within 4095 sides.0)))
    (sides_back 58 (decimal slot) (decimal hold) (decimal_without_colon slot (omega (arith, s))))
    ∙ ap (option_and_then (λ slot.
    option_map (λ hold. (slot, hold)) (decimal_within 6999 (decimal hold))))
    (reads 4095 slot s (lit< tt))
    ∙ ap (option_map (λ hold. (slot, hold))) (reads 6999 hold h (lit< tt))

slot_above : (slot hold : ℕ) → slot ≤ 4095 → hold ≤ 6999
    → are_above 44 (hold_text (slot, hold)) ≡ true
slot_above slot hold s h =
    list_all-append (λ b. nat_lt 44 b) (decimal slot) (58 ∷ decimal hold)
    ∙ and_from _ _ (decimal_above slot (omega (arith, s)))
    (decimal_above hold (omega (arith, h)))

-- ---- the slots from one on

abbrev IsHold : ℕ → Type 0
IsHold hold = hold ≤ 6999

texts_above : (slot : ℕ) (holds : List ℕ) → slot + length holds ≤ 4096 → All IsHold holds
    → list_all (are_above 44) (held_texts slot holds) ≡ true
texts_above slot [] few each = refl
texts_above slot (hold ∷ later) few each =
    let below =
    texts_above (slot + 1) later (omega (arith, few)) (All-tail IsHold hold later each) in
    elim (cases_Bool (hold == 0)) [
      | inl t ↦ rw t below
      | inr f ↦ rw f (and_from _ _ (slot_above slot hold (omega (arith, few))
          (All-head IsHold hold later each)) below)
    ]

some_texts : (slot : ℕ) (holds : List ℕ) → ends_held holds ≡ true → 0 < length holds
    → 0 < length (held_texts slot holds)
some_texts slot [] last some = absurd (omega (arith, some))
some_texts slot (hold ∷ []) last some = elim (cases_Bool (hold == 0)) [
  | inl t ↦ let wrong : false ≡ true = rw t at last in absurd (cc)
  | inr f ↦ rw f (omega arith)
]
some_texts slot (hold ∷ next ∷ later) last some = elim (cases_Bool (hold == 0)) [
  | inl t ↦ rw t (some_texts (slot + 1) (next ∷ later) last (omega arith))
  | inr f ↦ rw f (omega arith)
]

-- ---- reading them, after some holds

abbrev filled : List ℕ → ℕ → List ℕ → List ℕ
filled done slot holds = done ++ replicate (slot - length done) 0 ++ holds

zeros : (n : ℕ) (later : List ℕ) → replicate (suc n) 0 ++ later ≡ replicate n 0 ++ 0 ∷ later
zeros zero later = refl
zeros (suc n) later = ap (λ (xs : List ℕ). 0 ∷ xs) (zeros n later)

zero_more : (done : List ℕ) (slot : ℕ) (later : List ℕ) → length done ≤ slot
    → filled done (slot + 1) later ≡ filled done slot (0 ∷ later)
zero_more done slot later le =
    let one : slot + 1 - length done ≡ suc (slot - length done) = omega (arith, le) in
    ap (λ (n : ℕ). (done ++ replicate n 0) ++ later) one
    ∙ append_assoc done (replicate (suc (slot - length done)) 0) later
    ∙ ap (λ (xs : List ℕ). done ++ xs) (zeros (slot - length done) later)
    ∙ sym (append_assoc done (replicate (slot - length done) 0) (0 ∷ later))

length-filled : (done : List ℕ) (slot hold : ℕ) → length done ≤ slot
    → length (filled done slot (hold ∷ [])) ≡ slot + 1
length-filled done slot hold le =
    let between : List ℕ = replicate (slot - length done) 0 in
    let count : length between ≡ slot - length done = length-replicate (slot - length done) 0 in
    omega
    (arith, le, length-append (done ++ between) (hold ∷ []), length-append done between, count)

hold_more : (done : List ℕ) (slot hold : ℕ) (later : List ℕ) → length done ≤ slot
    → filled (filled done slot (hold ∷ [])) (slot + 1) later ≡ filled done slot (hold ∷ later)
hold_more done slot hold later le =
    let more : List ℕ = filled done slot (hold ∷ []) in
    let none : slot + 1 - length more ≡ 0 = omega (arith, length-filled done slot hold le) in
    ap (λ (n : ℕ). (more ++ replicate n 0) ++ later) none
    ∙ ap (λ (xs : List ℕ). xs ++ later) (append-nil more)
    ∙ append_assoc (done ++ replicate (slot - length done) 0) (hold ∷ []) later

slot_read : DecimalsReadBack → (done : List ℕ) (slot hold : ℕ) (later : List (List ℕ))
    → length done ≤ slot
    → slot ≤ 4095 → hold ≤ 6999
    → holds_from done (hold_text (slot, hold) ∷ later)
    ≡ holds_from (filled done slot (hold ∷ [])) later
unfolding holds_from
slot_read reads done slot hold later le s h =
    ap (λ (o : Option (ℕ × ℕ)). option_and_then (λ holds. holds_from holds later)
    (option_and_then (with_hold done) o)) (slot_back reads slot hold s h)
    ∙ rw (le-leb (length done) slot le) refl

nothing_read : (done : List ℕ) → holds_from done [] ≡ Some done
unfolding holds_from
nothing_read done = refl

slots_read : DecimalsReadBack → (done : List ℕ) (slot : ℕ) (holds : List ℕ) → length done ≤ slot
    → slot + length holds ≤ 4096 → All IsHold holds → ends_held holds ≡ true → 0 < length holds
    → holds_from done (held_texts slot holds) ≡ Some (filled done slot holds)
slots_read reads done slot [] le few each last some = absurd (omega (arith, some))
slots_read reads done slot (hold ∷ []) le few each last some = elim (cases_Bool (hold == 0)) [
  | inl t ↦ let wrong : false ≡ true = rw t at last in absurd (cc)
  | inr f ↦ rw f (slot_read reads done slot hold [] le (omega (arith, few))
      (All-head IsHold hold [] each) ∙ nothing_read (filled done slot (hold ∷ [])))
]
slots_read reads done slot (hold ∷ next ∷ later) le few each last some =
    let less : slot + 1 + length (next ∷ later) ≤ 4096 = omega (arith, few) in
    let others = All-tail IsHold hold (next ∷ later) each in
    elim (cases_Bool (hold == 0)) [
      | inl t ↦
          let none : 0 ≡ hold = sym (eqb-true hold 0 t) in
          rw t (slots_read reads done (slot + 1) (next ∷ later) (omega (arith, le)) less others last
          (omega arith)
          ∙ ap Some (zero_more done slot (next ∷ later) le
          ∙ ap (λ (h : ℕ). filled done slot (h ∷ next ∷ later)) none))
      | inr f ↦
          let more = filled done slot (hold ∷ []) in
          let size = length-filled done slot hold le in
          rw f (slot_read reads done slot hold (held_texts (slot + 1) (next ∷ later)) le
          (omega (arith, few))
          (All-head IsHold hold (next ∷ later) each)
          ∙ slots_read reads more (slot + 1) (next ∷ later) (omega (arith, size)) less others last
          (omega arith)
          ∙ ap Some (hold_more done slot hold (next ∷ later) le))
    ]

-- ---- whole values

pub holds_back : DecimalsReadBack → (holds : List ℕ) → AreSayable holds
    → holds_of (holds_value holds) ≡ Some holds
holds_back reads [] s = refl
holds_back reads (hold ∷ later) s =
    let holds : List ℕ = hold ∷ later in
    let texts = held_texts 0 holds in
    sym (holds_from_named (slice_split (λ b. b == 44) (join_with_byte 44 texts)))
    ∙ ap (holds_from []) (some_parts_back 44 44 (omega arith) texts
    (some_texts 0 holds s.last (omega arith)) (texts_above 0 holds (omega (arith, s.few)) s.each))
    ∙ slots_read reads [] 0 holds (omega arith) (omega (arith, s.few)) s.each s.last (omega arith)

pub holds_above : (hold : ℕ) (later : List ℕ) → AreSayable (hold ∷ later)
    → are_above 37 (join_with_byte 44 (held_texts 0 (hold ∷ later))) ≡ true
holds_above hold later s =
    let holds : List ℕ = hold ∷ later in
    let texts = held_texts 0 holds in
    joined_above 37 44 refl texts (all_above_less_in texts
    (texts_above 0 holds (omega (arith, s.few)) s.each))
  where
    all_above_less_in : (texts : List (List ℕ)) → list_all (are_above 44) texts ≡ true
        → list_all (are_above 37) texts ≡ true
    all_above_less_in texts t =
        weaker (are_above 44) (are_above 37) (all_above_less 37 44 (omega arith)) texts t
