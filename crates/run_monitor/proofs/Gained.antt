-- A set to which the rails are added one after another.
use Rattle.std.proofs.Common.{◌≡◌, ◌<◌, ◌≤◌, ◌+◌, ◌∙◌, ◌⊎◌, ℕ, Bool, true, false, ◌&&◌, ◌||◌, refl}
use Rattle.std.proofs.Common.{ap}
use Rattle.std.proofs.Common.{inl, inr, sym, subst, arith}
use Rattle.std.specs.Prelude.{IsTrue, ◌==◌}
use Rattle.std.proofs.lemmas.Bool.{cases_eq}
use Rattle.std.proofs.lemmas.Bool.Decides.{nat_tests}
use Rattle.facts.specs.domain.Sets.{Set}

-- the old set, and the place where that is good
abbrev pub Gains : Set → Set → ℕ → Bool → Type 0
Gains new old i good = (d : ℕ) → new d ≡ (old d || (good && d == i))

at_it : (old : Bool) (good : Bool) (i : ℕ) → old ≡ false → (old || (good && i == i)) ≡ good
at_it old good i none = Prim.grind (arith, nat_tests)

beside_it : (old : Bool) (good : Bool) (d i : ℕ) → (d ≡ i → ⊥) → (old || (good && d == i)) ≡ old
beside_it old good d i ne = Prim.grind (arith, nat_tests)

abbrev pub Told : (ℕ → Bool → Bool → Type 0) → ℕ → Set → Set → ℕ → Type 0
Told T count before s i = (d : ℕ) → d < i → d < count → T d (before d) (s d)

pub one_more : (T : ℕ → Bool → Bool → Type 0) (count : ℕ) (before old new : Set) (i : ℕ)
    (good : Bool) → Told T count before old i → old i ≡ false → Gains new old i good
    → (i < count → T i (before i) good) → Told T count before new (i + 1)
one_more T count before old new i good done none gains here d lt in' = by (cases_eq d i)
  where
    by : (d ≡ i) ⊎ (d ≡ i → ⊥) → T d (before d) (new d)
    by (inl e) =
        let is : new i ≡ good = gains i ∙ at_it (old i) good i none in
        let P : ℕ → Type 0 = λ n. T n (before n) (new n) in
        subst P (sym e) (subst (λ x. T i (before i) x) (sym is)
        (here (subst (λ n. n < count) e in')))
    by (inr ne) =
        let is : new d ≡ old d = gains d ∙ beside_it (old d) good d i ne in
        subst (λ x. T d (before d) x) (sym is) (done d (omega (arith, lt, ne)) in')

pub still_rails : (count : ℕ) (old new : Set) (i : ℕ) (good : Bool)
    → ((d : ℕ) → IsTrue (old d) → d < count) → Gains new old i good → (IsTrue good → i < count)
    → (d : ℕ) → IsTrue (new d) → d < count
still_rails count old new i good rails gains lt d t = by (cases_eq d i)
  where
    has : IsTrue (old d || (good && d == i))
    has = subst IsTrue (gains d) t

    good_here : (o g : Bool) (a b : ℕ) → IsTrue (o || (g && a == b)) → IsTrue o ⊎ IsTrue g
    good_here true g a b k = inl refl
    good_here false true a b k = inr refl
    good_here false false a b k = absurd (cc k)

    by : (d ≡ i) ⊎ (d ≡ i → ⊥) → d < count
    by (inl e) = from (good_here (old d) good d i has)
      where
        from : IsTrue (old d) ⊎ IsTrue good → d < count
        from (inl o) = rails d o
        from (inr g) = subst (λ n. n < count) (sym e) (lt g)
    by (inr ne) = rails d (subst IsTrue (beside_it (old d) good d i ne) has)

pub none_above : (old new : Set) (i : ℕ) (good : Bool) → ((d : ℕ) → i ≤ d → old d ≡ false)
    → Gains new old i good → (d : ℕ) → i + 1 ≤ d → new d ≡ false
none_above old new i good above gains d le =
    gains d ∙ (beside_it (old d) good d i (λ e. omega (arith, le, e)) ∙ above d (omega (arith, le)))

-- a set with a rail more
pub gains_one : (old new : Set) (i : ℕ) (good : Bool) → good ≡ true
    → new ≡ (λ x. old x || x == i) → Gains new old i good
gains_one old new i good is same d =
    let here : new d ≡ (old d || d == i) = ap (λ (s : Set). s d) same in
    here ∙ ap (λ g. old d || (g && d == i)) (sym is)
