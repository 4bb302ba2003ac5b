use Rattle.std.proofs.Common.{◌≡◌, ◌<◌, ◌≤◌, ◌+◌, ◌-◌, ◌==◌, ◌⊎◌, ℕ, Bool, true, false, List}
use Rattle.std.proofs.Common.{Some, None, length, take, drop, get_or, position, sym}
use Rattle.std.proofs.Common.{ap, ◌∙◌, inl, inr, arith}
use Rattle.std.specs.Prelude.{nat_lt}
use Rattle.std.specs.List.{position_or_len}
use Rattle.std.proofs.lemmas.Bool.{cases_Bool, cond-true, eqb-true}
use Rattle.std.proofs.lemmas.Bool.Decides.{nat_tests}
use Rattle.std.proofs.lemmas.List.Quantifiers.{position-Some}
use Rattle.std.proofs.lemmas.List.Sums.{position_or_len_is, prefix_len-le-length}
use Rattle.std.proofs.lemmas.Str.{IsCharBoundary-before_ascii, IsCharBoundary-after_ascii}
use Rattle.texts.specs.Cuts.{HasNo}
use Rattle.texts.proofs.cutting.cut_at.Goals as goal

-- the first mark stands there
record IsFirst (mark : ℕ) (text : List ℕ) (at' : ℕ) : Type 0 where
  pub within : at' < length text
  pub here : get_or text at' 0 ≡ mark
  pub place : position_or_len (λ b. b == mark) text ≡ at'

is_first : (mark : ℕ) (text seen : List ℕ) (at' : ℕ)
    → Some at' ≡ position (λ b. b == mark) seen → seen ≡ text → IsFirst mark text at'
is_first mark text seen at' e same =
    let is_mark : ℕ → Bool = λ b. b == mark in
    let k = position-Some is_mark text at' 0 (ap (position is_mark) (sym same) ∙ sym e) in
    record {
      within = k.0;
      here = eqb-true _ mark k.1;
      place = position_or_len_is is_mark text at' 0 (omega (arith, k.0)) k.2 (λ lt. k.1);
    }

no_place : (n : ℕ) → Some n ≡ None → ⊥
no_place n e = cc

none_there : (mark : ℕ) (text seen : List ℕ) → None ≡ position (λ b. b == mark) seen
    → seen ≡ text → position_or_len (λ b. b == mark) text ≤ length text → HasNo mark text
none_there mark text seen e same le = go (cases_Bool (nat_lt place (length text)))
  where
    place : ℕ
    place = position_or_len (λ b. b == mark) text

    go : (nat_lt place (length text) ≡ true) ⊎ (nat_lt place (length text) ≡ false)
        → HasNo mark text
    go (inl t) = absurd (no_place place (sym (cond-true (nat_lt place (length text)) (Some place)
        None t) ∙ (ap (position (λ b. b == mark)) (sym same) ∙ sym e)))
    go (inr f) = grind (arith, nat_tests)

pub range-requires-clause-end_boundary : goal.range-requires-clause-end_boundary
range-requires-clause-end_boundary c =
    let k = is_first c.args.mark c.args.text.now c.as_bytes.result.now c.in-Some.at
    c.in-Some.ensures c.as_bytes.ensures.value in
    IsCharBoundary-before_ascii c.args.text.now c.in-Some.at k.within
    (omega (arith, k.here, c.requires))

pub range_from-requires : goal.range_from-requires
range_from-requires c = λ some.
    let k = is_first c.args.mark c.args.text.now c.as_bytes.result.now c.in-Some.at
    c.in-Some.ensures c.as_bytes.ensures.value in
    IsCharBoundary-after_ascii c.args.text.now c.in-Some.at c.utf8.text k.within
    (omega (arith, k.here, c.requires))

pub returns-in-Some : goal.returns-in-Some
returns-in-Some c =
    let text = c.args.text.now in
    let k = is_first c.args.mark text c.as_bytes.result.now c.in-Some.at c.in-Some.ensures
    c.as_bytes.ensures.value in
    let all : c.in-Some.at - 0 ≡ position_or_len (λ b. b == c.args.mark) text =
    omega (arith, k.place) in
    record {
      parts = record {
        has = omega (arith, k.within, k.place);
        before = c.range.ensures.value ∙ ap (λ n. take n text) all;
        behind = c.range_from.ensures.value ∙ ap (λ n. drop (n + 1) text) (sym k.place);
      };
    }

pub returns-in-None : goal.returns-in-None
returns-in-None c =
    record {
      parts = none_there c.args.mark c.args.text.now c.as_bytes.result.now c.in-None.ensures
          c.as_bytes.ensures.value (prefix_len-le-length _ c.args.text.now);
    }
