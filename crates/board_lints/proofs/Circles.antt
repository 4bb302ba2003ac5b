-- Rails that come good one after another.
use Rattle.std.proofs.Common.{◌≡◌, ◌<◌, ◌-◌, ◌++◌, ◌⊎◌, ◌↔◌, ℕ, List, [], ◌∷◌, false}
use Rattle.std.proofs.Common.{◌+◌, zero, suc, drop, take, get_or, length, nat_eq, slice_get, Some}
use Rattle.std.proofs.Common.{All, refl, sym, ap, subst, arith}
use Rattle.std.proofs.Common.{inl, inr}
use Rattle.std.specs.Prelude.{IsTrue}
use Rattle.std.specs.List.{IsDistinct}
use Rattle.std.proofs.lemmas.Bool.{cases_Bool}
use Rattle.std.proofs.lemmas.Bool.Decides.{nat_tests}
use Rattle.std.proofs.lemmas.Cmp.{nat_eq_equiv}
use Rattle.std.proofs.lemmas.List.{length_push, take_more}
use Rattle.std.proofs.lemmas.List.Elements.{All-weaker}
use Rattle.std.proofs.lemmas.List.Folds.{list_any-append}
use Rattle.std.proofs.lemmas.Map.Keys.{IsDistinct-push}
use Rattle.std.proofs.lemmas.Map.Steps.{length-le_from_distinct_below}
use Rattle.board.specs.Boards.{Board, Rail}
use Rattle.board_lints.specs.Reasons.{TakesIn, CanComeGood, AllCanComeGood}
use Rattle.board_lints.specs.Lints.{Lints}
use Rattle.board_lints.specs.Ready.{is_ready, AreRails, AreAmong}

-- one that is ready is the new one, or was before
pub old_or_new : (ready : List ℕ) (rail d : ℕ) → IsTrue (is_ready (ready ++ rail ∷ []) d)
    → IsTrue (is_ready ready d) ⊎ (d ≡ rail)
old_or_new ready rail d t = elim (cases_Bool (is_ready ready d)) [
  | inl old ↦ inl old
  | inr not_old ↦
      let whole = list_any-append (nat_eq d) ready (rail ∷ []) in
      inr (grind (arith, nat_tests, t, whole, not_old))
]

pub more_rails : (b : Board) (ready : List ℕ) (rail : ℕ) → AreRails b ready
    → is_ready ready rail ≡ false → rail < length b.rails → AreRails b (ready ++ rail ∷ [])
more_rails b ready rail are new within = record {
  apart = IsDistinct-push nat_eq_equiv ready rail are.apart new;
  within = λ d t. elim (old_or_new ready rail d t) [
    | inl old ↦ are.within d old
    | inr same ↦ subst (λ n. n < length b.rails) (sym same) within
  ];
}

pub more_good : (b : Board) (ready : List ℕ) (rail : ℕ) (r : Rail)
    → slice_get b.rails rail ≡ Some r → All (λ need. IsTrue (is_ready ready need)) r.needs
    → ((d : ℕ) → IsTrue (is_ready ready d) → CanComeGood b d)
    → (d : ℕ) → IsTrue (is_ready (ready ++ rail ∷ []) d) → CanComeGood b d
more_good b ready rail r at needs good d t = elim (old_or_new ready rail d t) [
  | inl old ↦ good d old
  | inr same ↦ λ s takes.
      subst (λ n. IsTrue (s n)) (sym same)
      (takes rail r at
      (All-weaker (λ need. IsTrue (is_ready ready need)) (λ need. IsTrue (s need))
      (λ need is. good need is s takes) r.needs needs))
]

pub fewer_left : (b : Board) (ready : List ℕ) (rail : ℕ) → AreRails b (ready ++ rail ∷ [])
    → length b.rails - length (ready ++ rail ∷ []) < length b.rails - length ready
fewer_left b ready rail are =
    let few = length-le_from_distinct_below (ready ++ rail ∷ []) (length b.rails) are.apart
    are.within in
    omega (arith, few, length_push ready rail)

pub none_ready : (ready : List ℕ) → ready ≡ [] → (d : ℕ) → IsTrue (is_ready ready d) → ⊥
none_ready ready e d t =
    let none : is_ready ready d ≡ false = ap (λ xs. is_ready xs d) e in
    cc (none, t)

pub no_rails : (b : Board) (ready : List ℕ) → ready ≡ [] → AreRails b ready
unfolding IsDistinct
no_rails b ready e = record {
  apart = subst (IsDistinct nat_eq) (sym e) tt;
  within = λ d t. absurd (none_ready ready e d t);
}

pub good_from_none : (b : Board) (none ready : List ℕ) → none ≡ []
    → (((d : ℕ) → IsTrue (is_ready none d) → CanComeGood b d)
    → (d : ℕ) → IsTrue (is_ready ready d) → CanComeGood b d)
    → (d : ℕ) → IsTrue (is_ready ready d) → CanComeGood b d
good_from_none b none ready e grown = grown (λ d t. absurd (none_ready none e d t))

-- a rail that can't come good, and a circle that was told
pub some_stuck : (b : Board) (ready : List ℕ) (stuck : ℕ) (before after : Lints)
    → TakesIn b (is_ready ready) → stuck < length b.rails → is_ready ready stuck ≡ false
    → length before < length after → (after ≡ before) ↔ AllCanComeGood b
some_stuck b ready stuck before after all within not_ready more = (
  λ same. absurd (omega (arith, more, ap (λ lints. length lints) same)),
  λ each. absurd (cc (each stuck within (is_ready ready) all, not_ready)),
)

pub none_stuck : (b : Board) (ready : List ℕ) (before : Lints)
    → ((d : ℕ) → IsTrue (is_ready ready d) → CanComeGood b d)
    → ((d : ℕ) → d < length b.rails → IsTrue (is_ready ready d))
    → (before ≡ before) ↔ AllCanComeGood b
none_stuck b ready before good each = (λ same d within. good d (each d within), λ all. refl)

-- rails stay ready where another one is
pub still_ready : (ready : List ℕ) (rail d : ℕ) → IsTrue (is_ready ready d)
    → IsTrue (is_ready (ready ++ rail ∷ []) d)
still_ready ready rail d t =
    let whole = list_any-append (nat_eq d) ready (rail ∷ []) in grind (arith, nat_tests, t, whole)

-- what is left of rails is among them
pub dropped : (n : ℕ) (rails : List ℕ) (d : ℕ) → IsTrue (is_ready (drop n rails) d)
    → IsTrue (is_ready rails d)
dropped zero rails d t = t
dropped (suc n) [] d t = t
dropped (suc n) (rail ∷ rails) d t =
    let later = dropped n rails d t in grind (arith, nat_tests, later)

-- none of the rails of a way is ready, where the next one isn't either
pub more_behind : (ready way : List ℕ) (here : ℕ)
    → ((d : ℕ) → IsTrue (is_ready way d) → is_ready ready d ≡ false)
    → is_ready ready here ≡ false
    → (d : ℕ) → IsTrue (is_ready (way ++ here ∷ []) d) → is_ready ready d ≡ false
more_behind ready way here behind stuck d t = elim (old_or_new way here d t) [
  | inl old ↦ behind d old
  | inr same ↦ subst (λ n. is_ready ready n ≡ false) (sym same) stuck
]

-- each of some rails is among them
is_there : (rails : List ℕ) (i : ℕ) → i < length rails → IsTrue (is_ready rails (get_or rails i 0))
is_there [] i lt = absurd (omega (arith, lt))
is_there (rail ∷ rails) zero lt = grind (arith, nat_tests)
is_there (rail ∷ rails) (suc i) lt =
    let later = is_there rails i (omega (arith, lt)) in grind (arith, nat_tests, later)

pub within_all : (rails : List ℕ) (i count : ℕ) → ((d : ℕ) → IsTrue (is_ready rails d) → d < count)
    → i < length rails → get_or rails i 0 < count
within_all rails i count all lt = all (get_or rails i 0) (is_there rails i lt)

-- one rail more is among others
pub next_among : (rails more next : List ℕ) (i : ℕ) → i < length rails
    → AreAmong (take i rails) more → AreAmong more next → IsTrue (is_ready next (get_or rails i 0))
    → AreAmong (take (i + 1) rails) next
next_among rails more next i lt has kept here d t =
    elim (old_or_new (take i rails) (get_or rails i 0) d
    (subst (λ xs. IsTrue (is_ready xs d)) (take_more rails i 0 lt) t)) [
      | inl old ↦ kept d (has d old)
      | inr same ↦ subst (λ n. IsTrue (is_ready next n)) (sym same) here
    ]
