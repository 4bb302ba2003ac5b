-- The values of a set that are as a test asks.
use Rattle.std.proofs.Common.{◌≡◌, ◌<◌, ◌≤◌, ◌==◌, ◌&&◌, ◌||◌, not, ◌∙◌, inl, inr, ℕ, Bool}
use Rattle.std.proofs.Common.{IsTrue, true, false, ap, sym, refl, subst, arith}
use Rattle.std.proofs.lemmas.Bool.{cases_lt}
use Rattle.std.proofs.lemmas.Bool.Decides.{nat_tests}
use Rattle.facts.specs.domain.Sets.{Set, keeps}
use Rattle.facts.proofs.Coded.Placed.{is_same}

unless : (b e : Bool) → (e ≡ true → b ≡ false) → not e ≡ (b || not e)
unless true true h = sym (h refl)
unless true false h = refl
unless false e h = refl

-- without a value that isn't as asked
pub dropped : (s r : Set) (test : ℕ → Bool) (v : ℕ) → test v ≡ false
    → r ≡ keeps s (λ x. not (x == v)) → (x : ℕ) → r x ≡ (s x && (test x || not (x == v)))
dropped s r test v fails e x =
    ap (λ (z : Set). z x) e
    ∙ ap (λ b. s x && b)
    (unless (test x) (x == v)
    (λ t. subst (λ y. test y ≡ false) (sym (is_same x v t)) fails))

absorbed : (s t e : Bool) → ((s && t) && (t || not e)) ≡ (s && t)
absorbed true true e = refl
absorbed true false e = refl
absorbed false t e = refl

at_end : (s t e : Bool) → (s ≡ true → e ≡ true) → (s && (t || not e)) ≡ (s && t)
at_end false t e h = refl
at_end true true e h = refl
at_end true false true h = refl
at_end true false false h = sym (h refl)

equals : (x y : ℕ) → x ≡ y → (x == y) ≡ true
equals x y e = grind (arith, nat_tests)

-- each byte but the last has been looked at, and then that
pub passed : (s kept r : Set) (test : ℕ → Bool) (v : ℕ) → v ≡ 255
    → ((x : ℕ) → r x ≡ (kept x && (test x || not (x == v))))
    → ((x : ℕ) → x < v → kept x ≡ (s x && test x)) → ((x : ℕ) → v ≤ x → kept x ≡ s x)
    → ((x : ℕ) → IsTrue (s x) → x < 256) → r ≡ keeps s test
passed s kept r test v last e before from small = λ j x. each x j
  where
    each : (x : ℕ) → r x ≡ (s x && test x)
    each x = elim (cases_lt x v) [
      | inl less ↦
          e x ∙ ap (λ b. b && (test x || not (x == v))) (before x less)
          ∙ absorbed (s x) (test x) (x == v)
      | inr more ↦
          e x ∙ ap (λ b. b && (test x || not (x == v))) (from x more)
          ∙ at_end (s x) (test x) (x == v)
          (λ t. let few = small x t in equals x v (omega (arith, few, more, last)))
    ]
