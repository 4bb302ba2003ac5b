use Rattle.std.proofs.Common.{◌≡◌, ◌<◌, ◌+◌, ◌∙◌, inl, inr, ℕ, false, sym, subst, arith}
use Rattle.std.proofs.lemmas.Bool.{cases_lt}
use Rattle.facts.specs.domain.Sets.{Set, values_in}
use Rattle.facts.proofs.Coded.Ends.{first_is, none_first}
use Rattle.facts.proofs.domain.byte_set.least.Goals as goal

-- a value more isn't in the set
none_more : (s : Set) (v : ℕ) → ((x : ℕ) → x < v → s x ≡ false) → s v ≡ false
    → (x : ℕ) → x < v + 1 → s x ≡ false
none_more s v none here x lt = elim (cases_lt x v) [
  | inl less ↦ none x less
  | inr same ↦
      let e : v ≡ x = omega arith in
      subst (λ y. s y ≡ false) e here
]

pub returns-then-contains : goal.returns-then-contains
returns-then-contains g c =
    let lt = c.loop-value-test.true in
    first_is (values_in g.K.Kind.is_value g.K.Kind.place c.args.set) 0 255 c.loop-value.value
    (omega arith)
    (omega (arith, lt)) c.loop-value.invariant
    (sym c.contains.ensures ∙ c.if-contains.true)

pub loop-value-preserved : goal.loop-value-preserved
loop-value-preserved g c =
    none_more (values_in g.K.Kind.is_value g.K.Kind.place c.args.set) c.loop-value.value
    c.loop-value.invariant
    (sym c.contains.ensures ∙ c.if-contains.false)

pub returns : goal.returns
returns g c =
    let past = c.loop-value-test.false in
    none_first (values_in g.K.Kind.is_value g.K.Kind.place c.args.set) 0 255
    (λ x lt. c.loop-value.invariant x (omega (arith, lt, past)))
