-- Sets of values by the places that stand for them in a word.
use Rattle.std.proofs.Common.{◌≡◌, ◌≢◌, ◌<◌, ◌≤◌, ◌==◌, ◌||◌, ◌&&◌, not, ◌↔◌, ◌∙◌, inl, inr, ℕ}
use Rattle.std.proofs.Common.{IsTrue, Bool, true, false, bit_or, bit_and, ◌^◌, ap, sym, refl, subst}
use Rattle.std.proofs.Common.{arith}
use Rattle.std.proofs.lemmas.Bool.{cases_lt}
use Rattle.std.proofs.lemmas.Bool.Decides.{nat_tests}
use Rattle.std.proofs.Math.Nat.{pow-le-pow_right}
use Rattle.wires.specs.Bits.{bit}
use Rattle.facts.specs.domain.Sets.{Set, gains, keeps, HasValue}
use Rattle.facts.specs.domain.Rows.{SetCovers}
use Rattle.facts.proofs.Coded.Words.{no_bit, some_bit, bit_joined, bit_met}

-- the values of a kind whose places are in a set of places
abbrev pub placed : (ℕ → Bool) → (ℕ → ℕ) → Set → Set
placed is_value place places = λ v. is_value v && places (place v)

-- different values have different places
abbrev pub AreApart : (ℕ → Bool) → (ℕ → ℕ) → Type 0
AreApart is_value place = (x y : ℕ) → IsTrue (is_value x) → IsTrue (is_value y) → place x ≡ place y
    → x ≡ y

gained : (p s e f : Bool) → (p ≡ true → e ≡ f) → (e ≡ true → p ≡ true)
    → (p && (s || f)) ≡ ((p && s) || e)
gained true s e f same of = ap (λ x. s || x) (sym (same refl))
gained false s true f same of = of refl
gained false s false f same of = refl

kept : (p s e f : Bool) → (p ≡ true → e ≡ f) → (p && (s && not f)) ≡ ((p && s) && not e)
kept true s e f same = ap (λ x. s && not x) (sym (same refl))
kept false s e f same = refl

same_test : (x y a b : ℕ) → (a ≡ b → x ≡ y) → (x ≡ y → a ≡ b) → (x == y) ≡ (a == b)
same_test x y a b from to = grind (arith, nat_tests)

pub is_same : (x y : ℕ) → (x == y) ≡ true → x ≡ y
is_same x y t = grind (arith, nat_tests)

pub place_gained : (p : ℕ → Bool) (f : ℕ → ℕ) (s : Set) (value : ℕ) → AreApart p f
    → IsTrue (p value) → placed p f (gains s (f value)) ≡ gains (placed p f s) value
place_gained p f s value apart valid = λ j v.
    gained (p v) (s (f v)) (v == value) (f v == f value)
    (λ t. same_test v value (f v) (f value) (apart v value t valid) (λ e. ap f e))
    (λ t. subst (λ x. IsTrue (p x)) (sym (is_same v value t)) valid)
    j

pub place_kept : (p : ℕ → Bool) (f : ℕ → ℕ) (s : Set) (value : ℕ) → AreApart p f → IsTrue (p value)
    → placed p f (keeps s (λ x. not (x == f value))) ≡ keeps (placed p f s) (λ x. not (x == value))
place_kept p f s value apart valid = λ j v.
    kept (p v) (s (f v)) (v == value) (f v == f value)
    (λ t. same_test v value (f v) (f value) (apart v value t valid) (λ e. ap f e))
    j

-- values with a way back from their places are apart
pub apart : (p : ℕ → Bool) (f g : ℕ → ℕ) → ((v : ℕ) → IsTrue (p v) → g (f v) ≡ v) → AreApart p f
apart p f g back x y a b e = sym (back x a) ∙ ap g e ∙ back y b

pub and_right : (p s : Bool) → IsTrue (p && s) → IsTrue s
and_right true s t = t
and_right false true t = refl
and_right false false t = t

pub and_left : (p s : Bool) → IsTrue (p && s) → IsTrue p
and_left true s t = refl
and_left false s t = t

pub and_both : (p s : Bool) → IsTrue p → IsTrue s → IsTrue (p && s)
and_both true s a b = b
and_both false s a b = a

pub differ : (b : Bool) → b ≡ false → IsTrue b → ⊥
differ true e t = grind (arith, nat_tests)
differ false e t = grind (arith, nat_tests)

-- with a value at each place below so many
pub place_covers : (w : ℕ) (p : ℕ → Bool) (f g : ℕ → ℕ) (a b : ℕ) → b < 2 ^ w
    → ((n : ℕ) → n < w → IsTrue (p (g n))) → ((n : ℕ) → n < w → f (g n) ≡ n)
    → SetCovers (bit a) (bit b) ↔ SetCovers (placed p f (bit a)) (placed p f (bit b))
place_covers w p f g a b small valid stays = (from, to)
  where
    from : SetCovers (bit a) (bit b) → SetCovers (placed p f (bit a)) (placed p f (bit b))
    from c v t =
        and_both (p v) (bit a (f v)) (and_left (p v) (bit b (f v)) t)
        (c (f v) (and_right (p v) (bit b (f v)) t))

    to : SetCovers (placed p f (bit a)) (placed p f (bit b)) → SetCovers (bit a) (bit b)
    to c n t = elim (cases_lt n w) [
      | inl few ↦
          subst (λ x. IsTrue (bit a x)) (stays n few)
          (and_right (p (g n)) (bit a (f (g n))) (c (g n) (and_both (p (g n))
          (bit b (f (g n))) (valid n few) (subst (λ x. IsTrue (bit b x)) (sym (stays n few)) t))))
      | inr many ↦ absurd (differ (bit b n) (no_bit w b n small many) t)
    ]

either : (p s t : Bool) → (p && (s || t)) ≡ ((p && s) || (p && t))
either true s t = refl
either false s t = refl

place_joined : (p : ℕ → Bool) (f : ℕ → ℕ) (a b : ℕ)
    → placed p f (bit (bit_or a b)) ≡ (λ v. placed p f (bit a) v || placed p f (bit b) v)
place_joined p f a b =
    ap (placed p f) (bit_joined a b) ∙ (λ j v. either (p v) (bit a (f v)) (bit b (f v)) j)

-- the goals of the code of a set, whose fields are its word
pub with_is : (p : ℕ → Bool) (f : ℕ → ℕ) (inside now r v k : ℕ) → AreApart p f → inside ≡ now
    → k ≡ f v → IsTrue (p v) → bit r ≡ gains (bit inside) k
    → placed p f (bit r) ≡ gains (placed p f (bit now)) v
with_is p f inside now r v k apart e q valid h =
    ap (placed p f) (h ∙ ap (λ x. gains (bit x) k) e ∙ ap (λ x. gains (bit now) x) q)
    ∙ place_gained p f (bit now) v apart valid

pub without_is : (p : ℕ → Bool) (f : ℕ → ℕ) (inside now r v k : ℕ) → AreApart p f → inside ≡ now
    → k ≡ f v → IsTrue (p v) → bit r ≡ keeps (bit inside) (λ x. not (x == k))
    → placed p f (bit r) ≡ keeps (placed p f (bit now)) (λ x. not (x == v))
without_is p f inside now r v k apart e q valid h =
    ap (placed p f) (h ∙ ap (λ y. keeps (bit y) (λ x. not (x == k))) e
    ∙ ap (λ y. keeps (bit now) (λ x. not (x == y))) q) ∙ place_kept p f (bit now) v apart valid

pub covers_is : (w : ℕ) (p : ℕ → Bool) (f g : ℕ → ℕ) (r : Bool) (a b x y : ℕ)
    → ((n : ℕ) → n < w → IsTrue (p (g n))) → ((n : ℕ) → n < w → f (g n) ≡ n)
    → a ≡ x → b ≡ y → b < 2 ^ w
    → IsTrue r ↔ SetCovers (bit a) (bit b)
    → IsTrue r ↔ SetCovers (placed p f (bit x)) (placed p f (bit y))
covers_is w p f g r a b x y valid stays e q small h =
    let k = place_covers w p f g a b small valid stays in
    subst (λ z. IsTrue r ↔ SetCovers (placed p f (bit x)) (placed p f (bit z))) q
    (subst (λ z. IsTrue r ↔ SetCovers (placed p f (bit z)) (placed p f (bit b))) e
    ((λ t. k.0 (h.0 t)), (λ c. h.1 (k.1 c))))

-- unions, and what is in both
pub union_is : (p : ℕ → Bool) (f : ℕ → ℕ) (a b x y r : ℕ) → a ≡ x → b ≡ y → r ≡ bit_or a b
    → placed p f (bit r) ≡ (λ v. placed p f (bit x) v || placed p f (bit y) v)
union_is p f a b x y r e q h =
    ap (λ n. placed p f (bit n)) h ∙ place_joined p f a b
    ∙ ap (λ n v. placed p f (bit n) v || placed p f (bit b) v) e
    ∙ ap (λ n v. placed p f (bit x) v || placed p f (bit n) v) q

both : (p s t : Bool) → (p && (s && t)) ≡ ((p && s) && (p && t))
both true s t = refl
both false s t = refl

place_met : (p : ℕ → Bool) (f : ℕ → ℕ) (a b : ℕ)
    → placed p f (bit (bit_and a b)) ≡ (λ v. placed p f (bit a) v && placed p f (bit b) v)
place_met p f a b =
    ap (placed p f) (bit_met a b) ∙ (λ j v. both (p v) (bit a (f v)) (bit b (f v)) j)

pub common_is : (p : ℕ → Bool) (f : ℕ → ℕ) (a b x y r : ℕ) → a ≡ x → b ≡ y → r ≡ bit_and a b
    → placed p f (bit r) ≡ (λ v. placed p f (bit x) v && placed p f (bit y) v)
common_is p f a b x y r e q h =
    ap (λ n. placed p f (bit n)) h ∙ place_met p f a b
    ∙ ap (λ n v. placed p f (bit n) v && placed p f (bit b) v) e
    ∙ ap (λ n v. placed p f (bit x) v && placed p f (bit n) v) q

or_left : (s t : Bool) → IsTrue s → IsTrue (s || t)
or_left true t e = refl
or_left false t e = grind (arith, nat_tests)

or_right : (s t : Bool) → IsTrue t → IsTrue (s || t)
or_right true t e = refl
or_right false t e = e

or_one : (s t : Bool) (A : Type 0) → (IsTrue s → A) → (IsTrue t → A) → IsTrue (s || t) → A
or_one true t A l r e = l refl
or_one false t A l r e = r e

-- a union is the least set that covers both
pub union_first : (s t r : Set) → r ≡ (λ v. s v || t v) → SetCovers r s
union_first s t r e v in' =
    subst (λ (z : Set). IsTrue (z v)) (sym e) (or_left (s v) (t v) in')

pub union_second : (s t r : Set) → r ≡ (λ v. s v || t v) → SetCovers r t
union_second s t r e v in' =
    subst (λ (z : Set). IsTrue (z v)) (sym e) (or_right (s v) (t v) in')

pub union_least : (s t r u : Set) → r ≡ (λ v. s v || t v) → SetCovers u s → SetCovers u t
    → SetCovers u r
union_least s t r u e left right v in' =
    or_one (s v) (t v) (IsTrue (u v)) (left v) (right v)
    (subst (λ (z : Set). IsTrue (z v)) e in')

-- what is in both is the most that both cover
pub common_first : (s t r : Set) → r ≡ (λ v. s v && t v) → SetCovers s r
common_first s t r e v in' =
    and_left (s v) (t v) (subst (λ (z : Set). IsTrue (z v)) e in')

pub common_second : (s t r : Set) → r ≡ (λ v. s v && t v) → SetCovers t r
common_second s t r e v in' =
    and_right (s v) (t v) (subst (λ (z : Set). IsTrue (z v)) e in')

pub common_most : (s t r u : Set) → r ≡ (λ v. s v && t v) → SetCovers s u → SetCovers t u
    → SetCovers r u
common_most s t r u e left right v in' =
    subst (λ (z : Set). IsTrue (z v)) (sym e) (and_both (s v) (t v) (left v in') (right v in'))

-- some value is in a set whose word isn't 0
some_value : (w : ℕ) (p : ℕ → Bool) (f g : ℕ → ℕ) (bits : ℕ) → w ≤ 64
    → ((n : ℕ) → n < w → IsTrue (p (g n))) → ((n : ℕ) → n < w → f (g n) ≡ n) → bits < 2 ^ w
    → bits ≢ 0 → (v : ℕ) × IsTrue (placed p f (bit bits) v)
some_value w p f g bits few valid stays small ne =
    let most = pow-le-pow_right {n = 2} (omega arith) few in
    let k = some_bit bits (omega (arith, ne)) (omega (arith, small, most)) in
    let here = below k.0 k.1 in (
      g k.0,
      and_both (p (g k.0)) (bit bits (f (g k.0))) (valid k.0 here)
          (subst (λ n. IsTrue (bit bits n)) (sym (stays k.0 here)) k.1),
    )
  where
    below : (k : ℕ) → IsTrue (bit bits k) → k < w
    below k t = elim (cases_lt k w) [
      | inl lt ↦ lt
      | inr ge ↦ absurd (differ (bit bits k) (no_bit w bits k small ge) t)
    ]

no_value : (p : ℕ → Bool) (f : ℕ → ℕ) (bits v : ℕ) → bits ≡ 0
    → IsTrue (placed p f (bit bits) v) → ⊥
no_value p f bits v e t =
    differ (bit bits (f v)) (no_bit 0 bits (f v) (omega (arith, e)) (omega arith))
    (and_right (p v) (bit bits (f v)) t)

isnt_zero : (n : ℕ) → IsTrue (not (n == 0)) → n ≢ 0
isnt_zero n t = grind (arith, nat_tests)

not_zero : (n : ℕ) → n ≢ 0 → IsTrue (not (n == 0))
not_zero n ne = grind (arith, nat_tests)

pub has_some : (w : ℕ) (p : ℕ → Bool) (f g : ℕ → ℕ) (bits set : ℕ) → w ≤ 64
    → ((n : ℕ) → n < w → IsTrue (p (g n))) → ((n : ℕ) → n < w → f (g n) ≡ n) → bits ≡ set
    → bits < 2 ^ w → IsTrue (not (bits == 0)) ↔ HasValue (placed p f (bit set))
unfolding HasValue
has_some w p f g bits set few valid stays same small =
    subst (λ n. IsTrue (not (bits == 0)) ↔ HasValue (placed p f (bit n))) same (
      λ t. some_value w p f g bits few valid stays small (isnt_zero bits t),
      λ k. not_zero bits (λ e. no_value p f bits k.0 e k.1),
    )
