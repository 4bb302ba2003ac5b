-- Sets to which rails are added one after another, and their rails from 64 on, of which none is.
use Rattle.std.proofs.Common.{◌≡◌, ◌<◌, ◌≤◌, ◌+◌, ◌∙◌, ◌⊎◌, ℕ, Bool, true, false, ◌&&◌, ◌||◌, refl}
use Rattle.std.proofs.Common.{ap, inl, inr, not, sym, subst, arith}
use Rattle.std.specs.Prelude.{◌==◌, nat_lt}
use Rattle.std.proofs.lemmas.Bool.{cases_eq, cases_lt, lt-ltb}
use Rattle.std.proofs.lemmas.Bool.Decides.{nat_tests}
use Rattle.facts.specs.domain.Sets.{Set, is_rail, rails_in}

-- the old set, and the rail where it is to be in
abbrev pub Gains : Set → Set → ℕ → Bool → Type 0
Gains new old i is_in = (d : ℕ) → new d ≡ (old d || (is_in && d == i))

at_it : (old : Bool) (is_in : Bool) (i : ℕ) → old ≡ false → (old || (is_in && i == i)) ≡ is_in
at_it old is_in i none = Prim.grind (arith, nat_tests)

beside_it : (old : Bool) (is_in : Bool) (d i : ℕ) → (d ≡ i → ⊥)
    → (old || (is_in && d == i)) ≡ old
beside_it old is_in d i ne = Prim.grind (arith, nat_tests)

-- so far each rail is told, and none above is in the set
abbrev pub IsTold : (ℕ → Bool → Type 0) → Set → ℕ → Type 0
IsTold T s i = ((d : ℕ) → d < i → T d (s d)) × ((d : ℕ) → i ≤ d → s d ≡ false)

pub nothing_told : (T : ℕ → Bool → Type 0) (s : Set) → ((d : ℕ) → s d ≡ false) → IsTold T s 0
nothing_told T s none = (λ d lt. absurd (omega (arith, lt)), λ d le. none d)

pub one_more : (T : ℕ → Bool → Type 0) (old new : Set) (i : ℕ) (is_in : Bool) → IsTold T old i
    → Gains new old i is_in → T i is_in → IsTold T new (i + 1)
one_more T old new i is_in told gains here = (λ d lt. by d lt (cases_eq d i), above)
  where
    by : (d : ℕ) → d < i + 1 → (d ≡ i) ⊎ (d ≡ i → ⊥) → T d (new d)
    by d lt (inl e) =
        let is : new i ≡ is_in = gains i ∙ at_it (old i) is_in i (told.1 i (omega arith)) in
        let P : ℕ → Type 0 = λ n. T n (new n) in
        subst P (sym e) (subst (T i) (sym is) here)
    by d lt (inr ne) =
        let is : new d ≡ old d = gains d ∙ beside_it (old d) is_in d i ne in
        subst (T d) (sym is) (told.0 d (omega (arith, lt, ne)))

    above : (d : ℕ) → i + 1 ≤ d → new d ≡ false
    above d le = gains d ∙ (beside_it (old d) is_in d i (λ e. omega (arith, le, e))
        ∙ told.1 d (omega (arith, le)))

-- a set has no rail from 64 on
pub no_rail : (bits d : ℕ) → 64 ≤ d → rails_in bits d ≡ false
no_rail bits d le = none (nat_lt d 64) _ (Prim.grind (arith, nat_tests, le))
  where
    none : (x y : Bool) → x ≡ false → (x && y) ≡ false
    none x y e = rw e refl

-- what is told of all rails
pub all_told : (T : ℕ → Bool → Type 0) (bits i : ℕ) → 64 ≤ i → IsTold T (rails_in bits) i
    → ((d : ℕ) → 64 ≤ d → T d false) → (d : ℕ) → T d (rails_in bits d)
all_told T bits i end told beyond d = elim (cases_lt d 64) [
  | inl lt ↦ told.0 d (omega (arith, lt, end))
  | inr le ↦ subst (T d) (sym (no_rail bits d le)) (beyond d le)
]

-- nothing is sure that neither was before nor becomes so
pub none_after : (before gains loses : Bool) → before ≡ false → gains ≡ false
    → ((before || gains) && not loses) ≡ false
none_after before gains loses e f = rw (e, f) refl

-- a set with a rail more
pub gains_one : (old new : Set) (i : ℕ) (is_in : Bool) → is_in ≡ true
    → new ≡ (λ x. old x || x == i) → Gains new old i is_in
gains_one old new i is_in is same d =
    let here : new d ≡ (old d || d == i) = ap (λ (s : Set). s d) same in
    here ∙ ap (λ g. old d || (g && d == i)) (sym is)

-- whether it is a rail's index
pub of_rail : (d : ℕ) (x : Bool) → d < 64 → (is_rail d && x) ≡ x
of_rail d x lt = rw (lt-ltb d 64 lt) refl

pub beyond_rails : (d : ℕ) (x : Bool) → 64 ≤ d → (is_rail d && x) ≡ false
beyond_rails d x le = none (nat_lt d 64) (Prim.grind (arith, nat_tests, le))
  where
    none : (y : Bool) → y ≡ false → (y && x) ≡ false
    none y e = rw e refl

pub and_false : (x y : Bool) → y ≡ false → (x && y) ≡ false
and_false true y e = e
and_false false y e = refl

-- sets with the same rails are one
pub alike : (s u : Set) → ((d : ℕ) → s d ≡ u d) → s ≡ u
alike s u same = λ j d. same d j

pub false_and : (x y : Bool) → x ≡ false → (x && y) ≡ false
false_and x y e = rw e refl
