-- Tests of the numbers below another, one after another.
use Rattle.std.proofs.Common.{◌≡◌, ◌∙◌, ◌+◌, ◌||◌, ℕ, suc, Bool, true, false, ap, sym, refl, arith}
use Rattle.program_lints.specs.Reached.{some_below}

pub none_below : (test : ℕ → Bool) → false ≡ some_below test 0
unfolding some_below
none_below test = refl

-- one passed before, or this one does
one_more : (test : ℕ → Bool) (n : ℕ) (old here : Bool) → old ≡ some_below test n → here ≡ test n
    → (old || here) ≡ some_below test (n + 1)
unfolding some_below
one_more test n old here before is =
    let next : suc n ≡ n + 1 = omega arith in
    ap (λ x. x || here) before ∙ (ap (λ x. some_below test n || x) is
    ∙ ap (some_below test) next)

pub still_below : (test : ℕ → Bool) (n : ℕ) (old here new : Bool) → old ≡ some_below test n
    → here ≡ test n → old ≡ true → new ≡ old → new ≡ some_below test (n + 1)
still_below test n old here new before is passed told =
    told ∙ (passed ∙ (ap (λ x. x || here) (sym passed) ∙ one_more test n old here before is))

pub next_below : (test : ℕ → Bool) (n : ℕ) (old here new : Bool) → old ≡ some_below test n
    → here ≡ test n → old ≡ false → new ≡ here → new ≡ some_below test (n + 1)
next_below test n old here new before is none told =
    told ∙ (ap (λ x. x || here) (sym none) ∙ one_more test n old here before is)
