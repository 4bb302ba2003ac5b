-- Sets of values that are joined, and lists of them.
use Rattle.std.proofs.Common.{◌≡◌, ◌<◌, ◌⊎◌, ◌||◌, ◌&&◌, inl, inr, ℕ, zero, suc, List, [], ◌∷◌}
use Rattle.std.proofs.Common.{IsTrue, Bool, true, bit_or, bit_and, max, min, arith, length}
use Rattle.std.proofs.Common.{map, refl, ap, sym, ◌∙◌, ◌==◌}
use Rattle.std.proofs.lemmas.Bool.{or_left, or_right, or_cases, and_from, and_parts}
use Rattle.std.proofs.lemmas.Bool.Decides.{nat_tests}
use Rattle.std.proofs.lemmas.Nat.Bits.{bit_at_and, bit_at_or, bit_at-lt}
use Rattle.wires.specs.Bits.{bit}
use Rattle.facts.specs.domain.Rows.{AllCover, SetCovers, set_at}
use Rattle.facts.specs.domain.Sets.{Set}

-- the values of a kind whose places are in a word
abbrev pub placed : (ℕ → Bool) → (ℕ → ℕ) → ℕ → Set
placed is_value place word = λ v. is_value v && bit word (place v)

or_bit : (x y z : ℕ) → x < 2 → y < 2 → z ≡ max x y → (z == 1) ≡ (x == 1 || y == 1)
or_bit x y z a b e = grind (arith, nat_tests)

and_bit : (x y z : ℕ) → x < 2 → y < 2 → z ≡ min x y → (z == 1) ≡ (x == 1 && y == 1)
and_bit x y z a b e = grind (arith, nat_tests)

bit_joined : (a b i : ℕ) → bit (bit_or a b) i ≡ (bit a i || bit b i)
bit_joined a b i = or_bit _ _ _ (bit_at-lt a i) (bit_at-lt b i) (bit_at_or a b i)

bit_met : (a b i : ℕ) → bit (bit_and a b) i ≡ (bit a i && bit b i)
bit_met a b i = and_bit _ _ _ (bit_at-lt a i) (bit_at-lt b i) (bit_at_and a b i)

pub union_first : (p : ℕ → Bool) (f : ℕ → ℕ) (a b : ℕ)
    → SetCovers (placed p f (bit_or a b)) (placed p f a)
union_first p f a b v t =
    let k = and_parts (p v) (bit a (f v)) t in
    and_from (p v) (bit (bit_or a b) (f v)) k.0
    (bit_joined a b (f v) ∙ or_left (bit a (f v)) (bit b (f v)) k.1)

pub union_second : (p : ℕ → Bool) (f : ℕ → ℕ) (a b : ℕ)
    → SetCovers (placed p f (bit_or a b)) (placed p f b)
union_second p f a b v t =
    let k = and_parts (p v) (bit b (f v)) t in
    and_from (p v) (bit (bit_or a b) (f v)) k.0
    (bit_joined a b (f v) ∙ or_right (bit a (f v)) (bit b (f v)) k.1)

pub union_either : (p : ℕ → Bool) (f : ℕ → ℕ) (a b v : ℕ) → IsTrue (placed p f (bit_or a b) v)
    → IsTrue (placed p f a v) ⊎ IsTrue (placed p f b v)
union_either p f a b v t =
    let k = and_parts (p v) (bit (bit_or a b) (f v)) t in
    go k.0 (or_cases (bit a (f v)) (bit b (f v)) (sym (bit_joined a b (f v)) ∙ k.1))
  where
    go : IsTrue (p v) → (bit a (f v) ≡ true) ⊎ (bit b (f v) ≡ true)
        → IsTrue (placed p f a v) ⊎ IsTrue (placed p f b v)
    go h (inl e) = inl (and_from (p v) (bit a (f v)) h e)
    go h (inr e) = inr (and_from (p v) (bit b (f v)) h e)

-- what both have
pub meet_first : (p : ℕ → Bool) (f : ℕ → ℕ) (a b : ℕ)
    → SetCovers (placed p f a) (placed p f (bit_and a b))
meet_first p f a b v t =
    let k = and_parts (p v) (bit (bit_and a b) (f v)) t in
    let h = and_parts (bit a (f v)) (bit b (f v)) (sym (bit_met a b (f v)) ∙ k.1) in
    and_from (p v) (bit a (f v)) k.0 h.0

pub meet_second : (p : ℕ → Bool) (f : ℕ → ℕ) (a b : ℕ)
    → SetCovers (placed p f b) (placed p f (bit_and a b))
meet_second p f a b v t =
    let k = and_parts (p v) (bit (bit_and a b) (f v)) t in
    let h = and_parts (bit a (f v)) (bit b (f v)) (sym (bit_met a b (f v)) ∙ k.1) in
    and_from (p v) (bit b (f v)) k.0 h.1

pub meet_both : (p : ℕ → Bool) (f : ℕ → ℕ) (a b v : ℕ) → IsTrue (placed p f a v)
    → IsTrue (placed p f b v) → IsTrue (placed p f (bit_and a b) v)
meet_both p f a b v t u =
    let k = and_parts (p v) (bit a (f v)) t in
    let h = and_parts (p v) (bit b (f v)) u in
    and_from (p v) (bit (bit_and a b) (f v)) k.0
    (bit_met a b (f v) ∙ and_from (bit a (f v)) (bit b (f v)) k.1 h.1)

-- lists, part by part
abbrev pub zipped : {X : Type 0} → (X → X → X) → List X → List X → List X
zipped f [] us = []
zipped f (s ∷ ss) [] = []
zipped f (s ∷ ss) (u ∷ us) = f s u ∷ zipped f ss us

pub zipped_length : {X : Type 0} (f : X → X → X) (ss us : List X) → length ss ≡ length us
    → length (zipped f ss us) ≡ length ss
zipped_length f [] us e = refl
zipped_length f (s ∷ ss) [] e = absurd (omega (arith, e))
zipped_length f (s ∷ ss) (u ∷ us) e = ap suc (zipped_length f ss us (omega (arith, e)))

pub zipped_first : {X : Type 0} (Covers : X → X → Type 0) (f : X → X → X)
    → ((s u : X) → Covers (f s u) s) → (ss us : List X) → length ss ≡ length us
    → AllCover Covers (zipped f ss us) ss
zipped_first Covers f k [] us e = tt
zipped_first Covers f k (s ∷ ss) [] e = absurd (omega (arith, e))
zipped_first Covers f k (s ∷ ss) (u ∷ us) e =
    (k s u, zipped_first Covers f k ss us (omega (arith, e)))

pub zipped_second : {X : Type 0} (Covers : X → X → Type 0) (f : X → X → X)
    → ((s u : X) → Covers (f s u) u) → (ss us : List X) → length ss ≡ length us
    → AllCover Covers (zipped f ss us) us
zipped_second Covers f k [] [] e = tt
zipped_second Covers f k [] (u ∷ us) e = absurd (omega (arith, e))
zipped_second Covers f k (s ∷ ss) [] e = absurd (omega (arith, e))
zipped_second Covers f k (s ∷ ss) (u ∷ us) e =
    (k s u, zipped_second Covers f k ss us (omega (arith, e)))

-- what lies within the union of two lists of sets lies within one of them, set by set
pub within_either : (p : ℕ → Bool) (f : ℕ → ℕ) (rs ss us : List ℕ) → length ss ≡ length us
    → AllCover (λ s u. SetCovers (placed p f s) (placed p f u)) (zipped bit_or ss us) rs
    → (i v : ℕ) → IsTrue (set_at (map (placed p f) rs) i v)
    → IsTrue (set_at (map (placed p f) ss) i v) ⊎ IsTrue (set_at (map (placed p f) us) i v)
within_either p f [] [] [] e c i v t = inl t
within_either p f (r ∷ rs) [] us e c i v t = absurd c
within_either p f rs [] (u ∷ us) e c i v t = absurd (omega (arith, e))
within_either p f rs (s ∷ ss) [] e c i v t = absurd (omega (arith, e))
within_either p f [] (s ∷ ss) (u ∷ us) e c i v t = absurd c
within_either p f (r ∷ rs) (s ∷ ss) (u ∷ us) e c zero v t =
    union_either p f s u v (c.0 v t)
within_either p f (r ∷ rs) (s ∷ ss) (u ∷ us) e c (suc i) v t =
    within_either p f rs ss us (omega (arith, e)) c.1 i v t
