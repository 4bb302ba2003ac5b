-- Rails that need another through at most 64 needs are all that need it: each round that adds a
-- rail adds one of 64, and what a round doesn't change stays.
use Rattle.std.proofs.Common.{◌≡◌, ◌∙◌, ◌≤◌, ◌<◌, ◌+◌, ◌⊎◌, ℕ, zero, suc, Bool, true, false}
use Rattle.std.proofs.Common.{List, [], ◌∷◌, Option, Some, None, slice_get, slice_index_or, length}
use Rattle.std.proofs.Common.{refl, ap, sym, subst, inl, inr, arith}
use Rattle.std.specs.Prelude.{IsTrue, Contains, nat_lt}
use Rattle.std.specs.List.{list_any}
use Rattle.std.specs.Option.{option_map_or}
use Rattle.std.proofs.lemmas.Bool.{cases_Bool, cases_lt, cases_eq, eqb-true, eq-eqb, ltb-true}
use Rattle.std.proofs.lemmas.Bool.{lt-ltb, or_cases, or_left, or_right}
use Rattle.board.specs.Boards.{Rail, Board}
use Rattle.board.specs.Valid.{IsBoard}
use Rattle.facts.specs.domain.Sets.{Set, only}
use Rattle.program_lints.specs.Lints.{leaning, needs_of, next_leaning}
use Rattle.program_lints.specs.Needing.{TakesUp, LeaningIsNeeding}
use Rattle.program_lints.proofs.Gained.{alike}
use Rattle.program_lints.proofs.Places.{within}

-- ---- needs in a set

record InBoth (s : Set) (xs : List ℕ) : Type 0 where
  pub item : ℕ
  pub there : Contains xs item
  pub has : IsTrue (s item)

any_found : (s : Set) (xs : List ℕ) → list_any s xs ≡ true → InBoth s xs
any_found s [] t = absurd (cc t)
any_found s (x ∷ xs) t = by (any_found s xs) (or_cases (s x) (list_any s xs) t)
  where
    by : (list_any s xs ≡ true → InBoth s xs) → (s x ≡ true) ⊎ (list_any s xs ≡ true)
        → InBoth s (x ∷ xs)
    by later (inl h) = record { item = x; there = (0, omega arith, refl); has = h }
    by later (inr h) =
        let r = later h in
        let lt = r.there.1 in
        record {
          item = r.item;
          there = (suc r.there.0, omega (arith, lt), r.there.2);
          has = r.has;
        }

at_any : (s : Set) (xs : List ℕ) (k x : ℕ) → k < length xs → slice_index_or xs k x ≡ x
    → IsTrue (s x) → list_any s xs ≡ true
at_any s [] k x lt e t = absurd (omega (arith, lt))
at_any s (y ∷ ys) zero x lt e t =
    or_left (s y) (list_any s ys) (subst (λ n. s n ≡ true) (sym e) t)
at_any s (y ∷ ys) (suc k) x lt e t =
    or_right (s y) (list_any s ys) (at_any s ys k x (omega (arith, lt)) e t)

-- ---- the rounds

-- a rail that a round adds, or that was there before
record Added (b : Board) (s : Set) (d : ℕ) : Type 0 where
  pub rail : Rail
  pub there : slice_get b.rails d ≡ Some rail
  pub need : InBoth s rail.needs

added : (b : Board) (s : Set) (d : ℕ) → IsTrue (next_leaning b s d) → IsTrue (s d) ⊎ Added b s d
added b s d t = by (or_cases (s d) (list_any s (needs_of b d)) t)
  where
    of_rail : (o : Option Rail) → slice_get b.rails d ≡ o
        → list_any s (option_map_or (λ r. r.needs) o []) ≡ true → Added b s d
    of_rail None e h = absurd (cc h)
    of_rail (Some r) e h = record { rail = r; there = e; need = any_found s r.needs h }

    by : (s d ≡ true) ⊎ (list_any s (needs_of b d) ≡ true) → IsTrue (s d) ⊎ Added b s d
    by (inl h) = inl h
    by (inr h) = inr (of_rail (slice_get b.rails d) refl h)

-- each round stays within a set that takes up those who need its rails
stays_in : (b : Board) (need n : ℕ) (s : Set) → IsTrue (s need) → TakesUp b s → (d : ℕ)
    → IsTrue (leaning b n need d) → IsTrue (s d)
unfolding leaning
stays_in b need zero s start up d t =
    subst (λ n. IsTrue (s n)) (sym (eqb-true d need t)) start
stays_in b need (suc n) s start up d t =
    by (stays_in b need n s start up) (added b (leaning b n need) d t)
  where
    by : ((e : ℕ) → IsTrue (leaning b n need e) → IsTrue (s e))
        → IsTrue (leaning b n need d) ⊎ Added b (leaning b n need) d → IsTrue (s d)
    by before (inl h) = before d h
    by before (inr a) =
        up d a.need.item a.rail a.there a.need.there (before a.need.item a.need.has)

-- only rails of the board are added, of which there are 64 at most
is_rail_of : (b : Board) (need n : ℕ) → IsBoard b → need < length b.rails → (d : ℕ)
    → IsTrue (leaning b n need d) → d < 64
is_rail_of b need n is lt d t =
    ltb-true d 64
    (stays_in b need n (λ x. nat_lt x 64) (lt-ltb need 64 (small need lt))
    (λ e m r there has t. lt-ltb e 64 (small e (within b.rails e r there))) d t)
  where
    small : (x : ℕ) → x < length b.rails → x < 64
    small x below = let few = is.few_rails in omega (arith, below, few)

-- ---- how many rails there are

abbrev one : Bool → ℕ
one true = 1
one false = 0

count : Set → ℕ → ℕ
count s zero = 0
count s (suc k) = count s k + one (s k)

one_of : (x y : Bool) → (x ≡ true → y ≡ true) → one x ≤ one y
one_of false y up = omega arith
one_of true y up = rw (up refl) (omega arith)

few : (s : Set) (k : ℕ) → count s k ≤ k
unfolding count
few s zero = omega arith
few s (suc k) =
    let rest = few s k in
    let here = one_of (s k) true (λ e. refl) in omega (arith, rest, here)

more : (s u : Set) → ((d : ℕ) → IsTrue (s d) → IsTrue (u d)) → (k : ℕ) → count s k ≤ count u k
unfolding count
more s u up zero = omega arith
more s u up (suc k) =
    let rest = more s u up k in
    let here = one_of (s k) (u k) (up k) in omega (arith, rest, here)

some : (s : Set) (d k : ℕ) → IsTrue (s d) → d < k → 1 ≤ count s k
unfolding count
some s d zero t lt = absurd (omega (arith, lt))
some s d (suc k) t lt = by (some s d k t) (cases_eq d k)
  where
    by : (d < k → 1 ≤ count s k) → (d ≡ k) ⊎ (d ≡ k → ⊥) → 1 ≤ count s k + one (s k)
    by before (inl e) =
        let here : s k ≡ true = subst (λ n. s n ≡ true) e t in
        let is_one : one (s k) ≡ 1 = ap one here in omega (arith, is_one)
    by before (inr ne) =
        let rest = before (omega (arith, lt, ne)) in omega (arith, rest)

-- as many rails in a wider set are the same
same_one : (x y : Bool) → (x ≡ true → y ≡ true)
    → one x ≡ one y → x ≡ y
same_one true y up e = sym (up refl)
same_one false false up e = refl
same_one false true up e = absurd (omega (arith, e))

same : (s u : Set) → ((d : ℕ) → IsTrue (s d) → IsTrue (u d)) → (k : ℕ) → count s k ≡ count u k
    → (d : ℕ) → d < k → s d ≡ u d
unfolding count
same s u up zero e d lt = absurd (omega (arith, lt))
same s u up (suc k) e d lt = by (λ before. same s u up k before d) (cases_eq d k)
  where
    rest : count s k ≤ count u k
    rest = more s u up k

    here : one (s k) ≤ one (u k)
    here = one_of (s k) (u k) (up k)

    by : (count s k ≡ count u k → d < k → s d ≡ u d) → (d ≡ k) ⊎ (d ≡ k → ⊥) → s d ≡ u d
    by below (inl is) =
        let alike_k : one (s k) ≡ one (u k) = omega (arith, e, rest, here) in
        let at_k : s k ≡ u k = same_one (s k) (u k) (up k) alike_k in
        subst (λ n. s n ≡ u n) (sym is) at_k
    by below (inr ne) =
        let before : count s k ≡ count u k = omega (arith, e, rest, here) in
        below before (omega (arith, lt, ne))

-- ---- a round that changes nothing

-- from some round on nothing changes
IsStable : Board → ℕ → ℕ → Type 0
IsStable b need n = leaning b n need ≡ leaning b (suc n) need

stays : (b : Board) (need n : ℕ) → IsStable b need n → IsStable b need (suc n)
unfolding leaning IsStable
stays b need n e = ap (next_leaning b) e

stays_till : (b : Board) (need k : ℕ) → IsStable b need k → (n : ℕ) → k ≤ n → IsStable b need n
stays_till b need k e zero le =
    let z : k ≡ 0 = omega (arith, le) in subst (IsStable b need) z e
stays_till b need k e (suc n) le = by (stays_till b need k e n) (cases_eq k (suc n))
  where
    by : (k ≤ n → IsStable b need n) → (k ≡ suc n) ⊎ (k ≡ suc n → ⊥) → IsStable b need (suc n)
    by before (inl is) = subst (IsStable b need) is e
    by before (inr ne) = stays b need n (before (omega (arith, le, ne)))

grows : (b : Board) (need n d : ℕ) → IsTrue (leaning b n need d)
    → IsTrue (leaning b (suc n) need d)
unfolding leaning
grows b need n d t =
    or_left (leaning b n need d) (list_any (leaning b n need) (needs_of b d)) t

-- a round before changes nothing, or there are more rails than rounds
record StableBelow (b : Board) (need n : ℕ) : Type 0 where
  pub round : ℕ
  pub below : round < n
  pub stable : IsStable b need round

stable_or_more : (b : Board) (need : ℕ) → IsBoard b → need < length b.rails → (n : ℕ)
    → StableBelow b need n ⊎ (n + 1 ≤ count (leaning b n need) 64)
unfolding leaning IsStable
stable_or_more b need is lt zero =
    let few_rails = is.few_rails in
    inr (some (only need) need 64 (eq-eqb need need refl) (omega (arith, lt, few_rails)))
stable_or_more b need is lt (suc n) = by (stable_or_more b need is lt n)
  where
    old : Set
    old = leaning b n need

    new : Set
    new = leaning b (suc n) need

    up : (d : ℕ) → IsTrue (old d) → IsTrue (new d)
    up d t = grows b need n d t

    outside : (k d : ℕ) → 64 ≤ d → leaning b k need d ≡ false
    outside k d le = no (cases_Bool (leaning b k need d))
      where
        no : (leaning b k need d ≡ true) ⊎ (leaning b k need d ≡ false)
            → leaning b k need d ≡ false
        no (inl t) =
            let below = is_rail_of b need k is lt d t in absurd (omega (arith, le, below))
        no (inr f) = f

    all_same : count old 64 ≡ count new 64 → (d : ℕ) → old d ≡ new d
    all_same e d = elim (cases_lt d 64) [
      | inl below ↦ same old new up 64 e d below
      | inr le ↦ outside n d le ∙ sym (outside (suc n) d le)
    ]

    by : StableBelow b need n ⊎ (n + 1 ≤ count old 64)
        → StableBelow b need (suc n) ⊎ (suc n + 1 ≤ count new 64)
    by (inl s) =
        let below = s.below in
        inl (record { round = s.round; below = omega (arith, below); stable = s.stable })
    by (inr big) = elim (cases_eq (count old 64) (count new 64)) [
      | inl e ↦ inl (record {
        round = n;
        below = omega arith;
        stable = alike old new (all_same e);
      })
      | inr ne ↦
          let wider = more old new up 64 in inr (omega (arith, big, wider, ne))
    ]

stable : (b : Board) (need : ℕ) → IsBoard b → need < length b.rails → IsStable b need 64
stable b need is lt = by (stable_or_more b need is lt 64)
  where
    by : StableBelow b need 64 ⊎ (64 + 1 ≤ count (leaning b 64 need) 64) → IsStable b need 64
    by (inl s) =
        let below = s.below in
        stays_till b need s.round s.stable 64 (omega (arith, below))
    by (inr big) =
        let most = few (leaning b 64 need) 64 in absurd (omega (arith, big, most))

one_more_round : (b : Board) (need : ℕ) → IsStable b need 64
    → leaning b 64 need ≡ next_leaning b (leaning b 64 need)
unfolding leaning IsStable
one_more_round b need e = e

-- ---- both ways

takes_up : (b : Board) (need : ℕ) → IsBoard b → need < length b.rails
    → TakesUp b (leaning b 64 need)
takes_up b need is lt d m r there has t =
    subst (λ (s : Set). IsTrue (s d)) (sym turned)
    (or_right (leaning b 64 need d) (list_any (leaning b 64 need) (needs_of b d))
    (subst (λ (o : Option Rail). list_any (leaning b 64 need)
    (option_map_or (λ r. r.needs) o []) ≡ true) (sym there)
    (at_any (leaning b 64 need) r.needs has.0 m has.1 has.2 t)))
  where
    turned : leaning b 64 need ≡ next_leaning b (leaning b 64 need)
    turned = one_more_round b need (stable b need is lt)

starts : (b : Board) (need n : ℕ) → IsTrue (leaning b n need need)
unfolding leaning
starts b need zero = eq-eqb need need refl
starts b need (suc n) =
    or_left (leaning b n need need) (list_any (leaning b n need) (needs_of b need))
    (starts b need n)

pub leaning_is_needing : LeaningIsNeeding
leaning_is_needing b need d is lt = (
  λ t s start up. stays_in b need 64 s start up d t,
  λ leans. leans (leaning b 64 need) (starts b need 64) (takes_up b need is lt),
)
