-- Where over spans of counters two ranks differ most.
use Rattle.std.proofs.Common.{◌≡◌, ℕ, zero, suc, ◌+◌, ◌-◌, ◌*◌, ◌^◌, ◌<◌, ◌≤◌, ◌⊎◌, List, []}
use Rattle.std.proofs.Common.{◌∷◌, length, refl, ap, inl, inr, arith}
use Rattle.std.proofs.Math.Nat.{mul-le-mul_left}
use Rattle.std.proofs.lemmas.Bool.{cases_lt, cond-true, cond-false, lt-ltb, le-ltb, cond_both}
use Rattle.std.specs.Prelude.{nat_lt, replicate}
use Rattle.std.specs.List.{AllByRecursion}
use Rattle.facts.specs.declared.domain.span.Span.{Span}
use Rattle.facts.specs.domain.Rows.{InSpan, InSpans, weight}
use Rattle.table_check.specs.checker.Lacking.{dearest, dearest_counters}

-- what the rank before is greater by, at least, where its coefficient is the greater one
abbrev pub gain : List Span → List ℕ → List ℕ → ℕ
gain [] ks js = 0
gain (s ∷ ss) [] js = 0
gain (s ∷ ss) (k ∷ ks) [] = 0
gain (s ∷ ss) (k ∷ ks) (j ∷ js) = (k - j) * s.lo + gain ss ks js

-- what the rank after is greater by, at most, where its coefficient is
abbrev pub loss : List Span → List ℕ → List ℕ → ℕ
loss [] ks js = 0
loss (s ∷ ss) [] js = 0
loss (s ∷ ss) (k ∷ ks) [] = 0
loss (s ∷ ss) (k ∷ ks) (j ∷ js) = (j - k) * s.hi + loss ss ks js

-- one term, at any counter in its span
term : (k j lo hi c : ℕ) → lo ≤ c → c ≤ hi → j * c + (k - j) * lo ≤ k * c + (j - k) * hi
term k j lo hi c low high = go (cases_lt k j)
  where
    go : (k < j) ⊎ (j ≤ k) → j * c + (k - j) * lo ≤ k * c + (j - k) * hi
    go (inl lt) =
        let none : k - j ≡ 0 = omega arith in
        let whole : j ≡ k + (j - k) = omega arith in
        let split : j * c ≡ (k + (j - k)) * c = ap (λ x. x * c) whole in
        let more : (j - k) * c ≤ (j - k) * hi = mul-le-mul_left (j - k) high in
        let zero' : (k - j) * lo ≡ 0 * lo = ap (λ x. x * lo) none in
        omega (arith, split, more, zero')
    go (inr le) =
        let none : j - k ≡ 0 = omega arith in
        let whole : k ≡ j + (k - j) = omega arith in
        let split : k * c ≡ (j + (k - j)) * c = ap (λ x. x * c) whole in
        let more : (k - j) * lo ≤ (k - j) * c = mul-le-mul_left (k - j) low in
        let zero' : (j - k) * hi ≡ 0 * hi = ap (λ x. x * hi) none in
        omega (arith, split, more, zero')

-- and at its worst counter
term_worst : (k j : ℕ) (s : Span)
    → j * dearest k j s + (k - j) * s.lo ≡ k * dearest k j s + (j - k) * s.hi
term_worst k j s = go (cases_lt k j)
  where
    go : (k < j) ⊎ (j ≤ k)
        → j * dearest k j s + (k - j) * s.lo ≡ k * dearest k j s + (j - k) * s.hi
    go (inl lt) =
        let at' : dearest k j s ≡ s.hi = cond-true (nat_lt k j) s.hi s.lo (lt-ltb k j lt) in
        let none : k - j ≡ 0 = omega arith in
        let whole : j ≡ k + (j - k) = omega arith in
        let zero' : (k - j) * s.lo ≡ 0 * s.lo = ap (λ x. x * s.lo) none in
        let split : j * s.hi ≡ (k + (j - k)) * s.hi = ap (λ x. x * s.hi) whole in
        let left : j * dearest k j s ≡ j * s.hi = ap (λ x. j * x) at' in
        let right : k * dearest k j s ≡ k * s.hi = ap (λ x. k * x) at' in
        omega (arith, zero', split, left, right)
    go (inr le) =
        let at' : dearest k j s ≡ s.lo = cond-false (nat_lt k j) s.hi s.lo (le-ltb k j le) in
        let none : j - k ≡ 0 = omega arith in
        let whole : k ≡ j + (k - j) = omega arith in
        let zero' : (j - k) * s.hi ≡ 0 * s.hi = ap (λ x. x * s.hi) none in
        let split : k * s.lo ≡ (j + (k - j)) * s.lo = ap (λ x. x * s.lo) whole in
        let left : j * dearest k j s ≡ j * s.lo = ap (λ x. j * x) at' in
        let right : k * dearest k j s ≡ k * s.lo = ap (λ x. k * x) at' in
        omega (arith, zero', split, left, right)

worst_inside : (k j : ℕ) (s : Span) → s.lo ≤ s.hi → InSpan s (dearest k j s)
worst_inside k j s le =
    cond_both (nat_lt k j) s.hi s.lo (λ x. InSpan s x) (λ _. (le, omega arith))
    (λ _. (omega arith, le))

-- all terms
pub gain_below : (ss : List Span) (ks js cs : List ℕ) → length ks ≡ length ss
    → length js ≡ length ss → InSpans ss cs
    → weight js cs + gain ss ks js ≤ weight ks cs + loss ss ks js
gain_below [] [] [] cs e f h = omega arith
gain_below (s ∷ ss) (k ∷ ks) (j ∷ js) (c ∷ cs) e f h =
    omega (
      arith,
      term k j s.lo s.hi c h.0.0 h.0.1,
      gain_below ss ks js cs (omega arith) (omega arith) h.1,
    )
gain_below (s ∷ ss) (k ∷ ks) (j ∷ js) [] e f h = absurd h
gain_below [] (k ∷ ks) js cs e f h = absurd (omega arith)
gain_below [] [] (j ∷ js) cs e f h = absurd (omega arith)
gain_below (s ∷ ss) [] js cs e f h = absurd (omega arith)
gain_below (s ∷ ss) (k ∷ ks) [] cs e f h = absurd (omega arith)

pub dearest_inside : (ss : List Span) (ks js : List ℕ) → length ks ≡ length ss
    → length js ≡ length ss → AllByRecursion (λ s. s.lo ≤ s.hi) ss
    → InSpans ss (dearest_counters ss ks js)
dearest_inside [] ks js e f h = tt
dearest_inside (s ∷ ss) [] js e f h = absurd (omega (arith, e))
dearest_inside (s ∷ ss) (k ∷ ks) [] e f h = absurd (omega (arith, f))
dearest_inside (s ∷ ss) (k ∷ ks) (j ∷ js) e f h =
    (worst_inside k j s h.0, dearest_inside ss ks js (omega (arith, e)) (omega (arith, f)) h.1)

dearest_exact : (ss : List Span) (ks js : List ℕ) → length ks ≡ length ss → length js ≡ length ss
    → weight js (dearest_counters ss ks js) + gain ss ks js
    ≡ weight ks (dearest_counters ss ks js) + loss ss ks js
dearest_exact [] [] [] e f = refl
dearest_exact (s ∷ ss) (k ∷ ks) (j ∷ js) e f =
    omega (arith, term_worst k j s, dearest_exact ss ks js (omega arith) (omega arith))
dearest_exact [] (k ∷ ks) js e f = absurd (omega arith)
dearest_exact [] [] (j ∷ js) e f = absurd (omega arith)
dearest_exact (s ∷ ss) [] js e f = absurd (omega arith)
dearest_exact (s ∷ ss) (k ∷ ks) [] e f = absurd (omega arith)

-- nowhere is the rank after greater by more
pub most_lacking : (ss : List Span) (ks js cs : List ℕ) → length ks ≡ length ss
    → length js ≡ length ss → InSpans ss cs
    → weight js cs + weight ks (dearest_counters ss ks js)
    ≤ weight ks cs + weight js (dearest_counters ss ks js)
most_lacking ss ks js cs e f h =
    omega (arith, gain_below ss ks js cs e f h, dearest_exact ss ks js e f)

-- as many are left as weren't lost
pub left_inside : (most : ℕ) (lost : Span) (x : ℕ) → lost.hi ≤ most → InSpan lost x
    → InSpan (record { lo = most - lost.hi; hi = most - lost.lo }) (most - x)
left_inside most lost x top here =
    (omega (arith, top, here.0, here.1), omega (arith, here.0, here.1))

pub no_weight : (n : ℕ) (cs : List ℕ) → weight (replicate n 0) cs ≡ 0
no_weight zero cs = refl
no_weight (suc n) [] = refl
no_weight (suc n) (c ∷ cs) = omega (arith, no_weight n cs)

pub product_small : (x y : ℕ) → x < 2 ^ 64 → y < 2 ^ 16 → x * y ≤ 2 ^ 80
product_small x y a b =
    let k : x * y ≤ x * 2 ^ 16 = mul-le-mul_left x (omega (arith, b)) in
    omega (arith, k)

pub products_are : {a b x y : ℕ} → a ≡ x → b ≡ y → a * b ≡ x * y
products_are e f = cc
