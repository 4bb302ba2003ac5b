-- The slots of a message are as many as the code counts.
use Rattle.std.proofs.Common.{◌≡◌, ℕ, zero, suc, ◌+◌, ◌*◌, ◌-◌, ◌<◌, ◌≤◌, nat_lt, if◌then◌else◌}
use Rattle.std.proofs.Common.{Bool, true, false, Option, Some, None, List, [], ◌∷◌, ◌++◌, length}
use Rattle.std.proofs.Common.{refl, ap, ◌∙◌, inl, inr, arith, length-append}
use Rattle.std.proofs.lemmas.Bool.{cases_lt, lt-ltb, le-ltb}
use Rattle.bit_bus.specs.declared.plan.Slot.TheVariants.{End}
use Rattle.smbus.specs.Asked.{Asked}
use Rattle.smbus.specs.Answered.{Answered}
use Rattle.smbus.specs.Protocol.{Piece, sent, got, whole, refused_at, up_to_refused, sent_count}
use Rattle.smbus.specs.Protocol.Piece.{Got}
use Rattle.smbus.specs.Parts.{first_bytes, has_repeat, returned_bytes}
use Rattle.smbus.specs.Slots.{slots_of, marks_sent}
use Rattle.smbus.proofs.MarkCounts.{mark_count, length-marks_of}
use Rattle.smbus.proofs.PartsOfFrames.{repeat_of, repeats_count, whole_parts, sent_count-parts}
use Rattle.smbus.specs.Counts.{controller_count, bytes_up_to, slots_for, slot_count}

same_repeats : (r : Bool) → repeats_count r ≡ (if r then 1 else 0)
same_repeats true = refl
same_repeats false = refl

-- the controller's bytes
pub controller_count_sent : (m : Asked) (value : ℕ) (block : List ℕ)
    → sent_count (whole m value block) ≡ controller_count m
controller_count_sent m value block =
    sent_count-parts m value block
    ∙ ap (λ (n : ℕ). length (first_bytes m) + n) (same_repeats (has_repeat m.form))

count_sent : (bs : List ℕ) (later : List Piece)
    → mark_count (sent bs ++ later) ≡ 9 * length bs + mark_count later
count_sent [] later = omega arith
count_sent (b ∷ bs) later = let h = count_sent bs later in omega arith

count_got : (bs : List ℕ) → mark_count (got bs) ≡ 9 * length bs
count_got [] = refl
count_got (b ∷ []) = refl
count_got (b ∷ c ∷ bs) = let h = count_got (c ∷ bs) in omega arith

-- no byte of a target is refused
refused_got : (n : ℕ) (bs : List ℕ) → refused_at n (got bs) ≡ got bs
refused_got zero [] = refl
refused_got (suc n) [] = refl
refused_got zero (b ∷ []) = refl
refused_got (suc n) (b ∷ []) = refl
refused_got zero (b ∷ c ∷ bs) = ap (λ (l : List Piece). Got b true ∷ l) (refused_got zero (c ∷ bs))
refused_got (suc n) (b ∷ c ∷ bs) =
    ap (λ (l : List Piece). Got b true ∷ l) (refused_got (suc n) (c ∷ bs))

refused_within : (n : ℕ) (bs : List ℕ) (later : List Piece) → n < length bs
    → mark_count (refused_at n (sent bs ++ later)) ≡ 9 * (n + 1)
refused_within n [] later lt = absurd (omega arith)
refused_within zero (b ∷ bs) later lt = refl
refused_within (suc n) (b ∷ bs) later lt =
    let h = refused_within n bs later (omega arith) in
    omega arith

refused_past : (bs : List ℕ) (k : ℕ) (later : List Piece)
    → mark_count (refused_at (length bs + k) (sent bs ++ later))
    ≡ 9 * length bs + mark_count (refused_at k later)
refused_past [] k later = let z : 0 + k ≡ k = omega arith in rw z (omega arith)
refused_past (b ∷ bs) k later =
    let z : suc (length bs) + k ≡ suc (length bs + k) = omega arith in
    let h = refused_past bs k later in
    rw z (omega arith)

-- what follows the first bytes
abbrev rest_of : Bool → ℕ → List ℕ → List Piece
rest_of r a bs = repeat_of r a ++ got bs

abbrev ones : Bool → ℕ
ones r = if r then 1 else 0

count_rest : (r : Bool) (a : ℕ) (bs : List ℕ)
    → mark_count (rest_of r a bs) ≡ 10 * ones r + 9 * length bs
count_rest true a bs = let h = count_got bs in omega arith
count_rest false a bs = let h = count_got bs in omega arith

-- where the address after a repeated START is refused, nothing follows it
refused_repeat : (r : Bool) (a k : ℕ) (bs : List ℕ) → k < ones r
    → mark_count (refused_at k (rest_of r a bs)) ≡ 10
refused_repeat true a zero bs lt = refl
refused_repeat true a (suc k) bs lt = absurd (omega arith)
refused_repeat false a k bs lt = absurd (omega arith)

none_refused : (r : Bool) (a k : ℕ) (bs : List ℕ) → ones r ≤ k
    → mark_count (refused_at k (rest_of r a bs)) ≡ 10 * ones r + 9 * length bs
none_refused true a zero bs le = absurd (omega arith)
none_refused true a (suc k) bs le =
    let h = count_got bs in
    let e = refused_got k bs in
    rw e (omega arith)
none_refused false a k bs le =
    let h = count_got bs in
    let e = refused_got k bs in
    rw e (omega arith)

few_ones : (r : Bool) → ones r ≤ 1
few_ones true = omega arith
few_ones false = omega arith

-- the STOP is one more
with_stop : (first repeats bytes marks : ℕ) → (first < bytes → marks ≡ 9 * bytes + repeats)
    → (bytes ≤ first → marks ≡ 9 * bytes) → marks + 1 ≡ slots_for first repeats bytes
with_stop first repeats bytes marks above below =
    elim (cases_lt first bytes) [
      | inl lt ↦ let h = above lt in let t = lt-ltb first bytes lt in rw t (omega arith)
      | inr le ↦ let h = below le in let t = le-ltb first bytes le in rw t (omega arith)
    ]

whole_slots : (F R : ℕ) (r : Bool) (marks : ℕ) → marks ≡ 9 * F + (10 * ones r + 9 * R)
    → marks + 1 ≡ slots_for F (ones r) ((F + ones r) + R)
whole_slots F R true marks e =
    with_stop F 1 ((F + 1) + R) marks (λ q. omega arith) (λ q. absurd (omega arith))
whole_slots F R false marks e =
    with_stop F 0 ((F + 0) + R) marks (λ q. omega arith) (λ q. omega arith)

-- the marks up to a refused byte, or all
refused_later : (k : ℕ) (first : List ℕ) (r : Bool) (a : ℕ) (bs : List ℕ)
    → mark_count (refused_at (length first + k) (sent first ++ rest_of r a bs)) + 1
    ≡ slots_for (length first) (ones r)
    (bytes_up_to (Some (length first + k)) (length first + ones r) (length bs))
refused_later k first r a bs =
    let few = few_ones r in
    let past = refused_past first k (rest_of r a bs) in
    elim (cases_lt k (ones r)) [
      | inl lt ↦
          let h = refused_repeat r a k bs lt in
          let t : nat_lt (length first + k) (length first + ones r) ≡ true =
          lt-ltb _ _ (omega arith) in
          rw t (with_stop (length first) (ones r) (length first + k + 1) _ (λ q. omega arith)
          (λ q. absurd (omega arith)))
      | inr le ↦
          let h = none_refused r a k bs le in
          let t : nat_lt (length first + k) (length first + ones r) ≡ false =
          le-ltb _ _ (omega arith) in
          rw t (whole_slots (length first) (length bs) r _ (omega arith))
    ]

refused_slots : (n : ℕ) (first : List ℕ) (r : Bool) (a : ℕ) (bs : List ℕ)
    → mark_count (refused_at n (sent first ++ rest_of r a bs)) + 1
    ≡ slots_for (length first) (ones r) (bytes_up_to (Some n) (length first + ones r) (length bs))
refused_slots n first r a bs =
    elim (cases_lt n (length first)) [
      | inl lt ↦
          let t : nat_lt n (length first + ones r) ≡ true =
          lt-ltb n (length first + ones r) (omega arith) in
          let h = refused_within n first (rest_of r a bs) lt in
          rw t (with_stop (length first) (ones r) (n + 1) _ (λ q. absurd (omega arith)) (λ q. h))
      | inr le ↦
          let e : length first + (n - length first) ≡ n = omega arith in
          rw e at (refused_later (n - length first) first r a bs)
    ]

slots_up_to : (refuse : Option ℕ) (first : List ℕ) (r : Bool) (a : ℕ) (bs : List ℕ)
    → mark_count (up_to_refused refuse (sent first ++ rest_of r a bs)) + 1
    ≡ slots_for (length first) (ones r) (bytes_up_to refuse (length first + ones r) (length bs))
slots_up_to None first r a bs =
    let h = count_rest r a bs in
    let c = count_sent first (rest_of r a bs) in
    whole_slots (length first) (length bs) r _ (omega arith)
slots_up_to (Some n) first r a bs = refused_slots n first r a bs

pub slots_counted : (m : Asked) (a : Answered) → length (slots_of m a) ≡ slot_count m a
slots_counted m a =
    let returned : List ℕ = returned_bytes m.form a.value a.bytes in
    let pieces : List Piece =
    sent (first_bytes m) ++ rest_of (has_repeat m.form) m.address returned in
    let stop = length-append (marks_sent m a.refuse a.value a.bytes) (End ∷ []) in
    let marks : length (marks_sent m a.refuse a.value a.bytes)
    ≡ mark_count (up_to_refused a.refuse (whole m a.value a.bytes)) =
    length-marks_of (up_to_refused a.refuse (whole m a.value a.bytes)) in
    let parts : mark_count (up_to_refused a.refuse (whole m a.value a.bytes))
    ≡ mark_count (up_to_refused a.refuse pieces)
    =
    ap (λ (l : List Piece). mark_count (up_to_refused a.refuse l))
    (whole_parts m.form m.address m.code m.out a.value a.bytes) in
    let count = slots_up_to a.refuse (first_bytes m) (has_repeat m.form) m.address returned in
    omega arith
