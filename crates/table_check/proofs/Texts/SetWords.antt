-- The values of a set, listed in ascending order, are those of the set that is read from them.
use Rattle.std.proofs.Common.{◌≡◌, ◌≢◌, ℕ, zero, suc, ◌+◌, ◌<◌, ◌≤◌, ◌==◌, ◌||◌, nat_lt, Bool, true}
use Rattle.std.proofs.Common.{false, List, [], ◌∷◌, ◌++◌, map, filter, Option, Some, None, IsTrue}
use Rattle.std.proofs.Common.{option_and_then, refl, sym, ap, ◌∙◌, arith, inl, inr}
use Rattle.std.specs.List.{range_with_len, AllByRecursion}
use Rattle.std.proofs.lemmas.Bool.{cases_Bool, cases_eq, cases_lt}
use Rattle.std.proofs.lemmas.Bool.Decides.{nat_tests}
use Rattle.std.proofs.lemmas.List.{append_assoc, append-nil}
use Rattle.facts.specs.domain.Sets.{Set, empty, gains, with_values, set_of}
use Rattle.table_check.specs.text.Lines.{Words, values_below}
use Rattle.table_check.specs.text.Saying.{at_least, ascending}
use Rattle.table_check.proofs.Texts.Options.{none_some, same_some, from_then, from_if, from_else}

-- ---- lists of values

abbrev pub has : List ℕ → ℕ → Bool
has [] x = false
has (v ∷ vs) x = (x == v) || has vs x

abbrev pub Ascends : ℕ → List ℕ → Type 0
Ascends low [] = Unit {0}
Ascends low (v ∷ vs) = (low ≤ v) × Ascends (v + 1) vs

abbrev pub EachIs : (ℕ → Type 0) → List ℕ → Type 0
EachIs P vs = AllByRecursion P vs

lower : (low more : ℕ) (vs : List ℕ) → low ≤ more → Ascends more vs → Ascends low vs
lower low more [] le up = tt
lower low more (v ∷ vs) le up = (omega (arith, le, up.0), up.1)

same_value : (x v : ℕ) → x ≡ v → (x == v) ≡ true
same_value x v e = grind (arith, nat_tests)

other_value : (x v : ℕ) → x ≢ v → (x == v) ≡ false
other_value x v n = grind (arith, nat_tests)

not_below : (low x : ℕ) (vs : List ℕ) → Ascends low vs → x < low → has vs x ≡ false
not_below low x [] up lt = refl
not_below low x (v ∷ vs) up lt =
    rw (other_value x v (λ e. absurd (omega (arith, up.0, lt, e))))
    (not_below (v + 1) x vs up.1 (omega (arith, up.0, lt)))

-- ---- the values of a set

listed : (S : Set) (most low n : ℕ) (vs : List ℕ) → most ≡ low + n → Ascends low vs
    → EachIs (λ v. v < most) vs → ((x : ℕ) → low ≤ x → S x ≡ has vs x)
    → filter S (range_with_len low n) ≡ vs
listed S most low zero [] e up few same = refl
listed S most low zero (v ∷ vs) e up few same = absurd (omega (arith, e, up.0, few.0))
listed S most low (suc n) [] e up few same =
    rw (same low (omega arith))
    (listed S most (low + 1) n [] (omega (arith, e)) tt tt (λ x le. same x (omega (arith, le))))
listed S most low (suc n) (v ∷ vs) m up few same = elim (cases_eq v low) [
  | inl e ↦
      let on : S low ≡ true = same low (omega arith) ∙ here vs (sym e) in
      let rest = listed S most (low + 1) n vs (omega (arith, m)) (rw e at up.1) few.1
      (λ x le. same x (omega (arith, le)) ∙ later x vs (λ q. absurd (omega (arith, le, q, e)))) in
      rw on (ap (λ (xs : List ℕ). low ∷ xs) rest ∙ ap (λ (x : ℕ). x ∷ vs) (sym e))
  | inr ne ↦
      let next : Ascends (low + 1) (v ∷ vs) = (omega (arith, up.0, ne), up.1) in
      let off : S low ≡ false =
      same low (omega arith) ∙ not_below (low + 1) low (v ∷ vs) next (omega arith) in
      rw off (listed S most (low + 1) n (v ∷ vs) (omega (arith, m)) next few
      (λ x le. same x (omega (arith, le))))
]
  where
    here : (vs : List ℕ) → low ≡ v → has (v ∷ vs) low ≡ true
    here vs e = rw (same_value low v e) refl

    later : (x : ℕ) (vs : List ℕ) → x ≢ v → has (v ∷ vs) x ≡ has vs x
    later x vs other = rw (other_value x v other) refl

-- what is listed
members_up : (S : Set) (low n : ℕ) → Ascends low (filter S (range_with_len low n))
members_up S low zero = tt
members_up S low (suc n) = elim (cases_Bool (S low)) [
  | inl t ↦ rw t (omega arith, members_up S (low + 1) n)
  | inr f ↦ rw f (lower low (low + 1) _ (omega arith) (members_up S (low + 1) n))
]

pub members_in : (S : Set) (P : ℕ → Type 0) (most low n : ℕ) → most ≡ low + n
    → ((v : ℕ) → v < most → IsTrue (S v) → P v) → EachIs P (filter S (range_with_len low n))
members_in S P most low zero e h = tt
members_in S P most low (suc n) e h = elim (cases_Bool (S low)) [
  | inl t ↦ rw t (h low (omega (arith, e)) t, members_in S P most (low + 1) n (omega (arith, e)) h)
  | inr f ↦ rw f (members_in S P most (low + 1) n (omega (arith, e)) h)
]

pub member : (S : Set) (most low n x : ℕ) → most ≡ low + n → low ≤ x → x < most
    → has (filter S (range_with_len low n)) x ≡ S x
member S most low zero x m le lt = absurd (omega (arith, m, le, lt))
member S most low (suc n) x m le lt = elim (cases_eq x low) [
  | inl e ↦ elim (cases_Bool (S low)) [
    | inl t ↦ rw t (rw (same_value x low e) (sym (ap S e ∙ t)))
    | inr f ↦
        rw f (not_below (low + 1) x _ (members_up S (low + 1) n) (omega (arith, e))
        ∙ sym (ap S e ∙ f))
  ]
  | inr ne ↦
      let rest = member S most (low + 1) n x (omega (arith, m)) (omega (arith, le, ne)) lt in
      elim (cases_Bool (S low)) [
        | inl t ↦ rw t (rw (other_value x low ne) rest)
        | inr f ↦ rw f rest
      ]
]

-- ---- sets of values

grown : (is_value : ℕ → Bool) (s : Set) (vs : List ℕ) (S : Set)
    → with_values is_value s vs ≡ Some S
    → ((x : ℕ) → S x ≡ (s x || has vs x)) × EachIs (λ v. IsTrue (is_value v)) vs
grown is_value s [] S e = let same : s ≡ S = same_some s S e in (
  (λ x. sym (ap (λ (u : Set). u x) same) ∙ sym (or_false (s x))),
  tt,
)
  where
    or_false : (b : Bool) → (b || false) ≡ b
    or_false true = refl
    or_false false = refl
grown is_value s (v ∷ vs) S e =
    let q = from_if (is_value v) (with_values is_value (gains s v) vs) S e in
    let more = grown is_value (gains s v) vs S q.1 in
    ((λ x. more.0 x ∙ regrouped (s x) (x == v) (has vs x)), (q.0, more.1))
  where
    regrouped : (a b c : Bool) → ((a || b) || c) ≡ (a || (b || c))
    regrouped true b c = refl
    regrouped false b c = refl

made : (is_value : ℕ → Bool) (s : Set) (vs : List ℕ) → EachIs (λ v. IsTrue (is_value v)) vs
    → (S : Set) × (with_values is_value s vs ≡ Some S)
made is_value s [] all = (s, refl)
made is_value s (v ∷ vs) all =
    let more = made is_value (gains s v) vs all.1 in (more.0, rw all.0 more.1)

-- ---- words

-- the words spell the values
abbrev pub Spells : (List ℕ → Option ℕ) → Words → List ℕ → Type 0
Spells value_of [] [] = Unit {0}
Spells value_of (w ∷ ws) (v ∷ vs) = (value_of w ≡ Some v) × Spells value_of ws vs
Spells value_of [] (v ∷ vs) = ⊥
Spells value_of (w ∷ ws) [] = ⊥

record IsRead (value_of : List ℕ → Option ℕ) (done : List ℕ) (least : ℕ) (ws : Words)
    (vs : List ℕ) : Type 0 where
  more : List ℕ
  all : vs ≡ done ++ more
  up : Ascends least more
  spells : Spells value_of ws more

least_of : (least v : ℕ) (o : Option ℕ) → at_least least o ≡ Some v
    → (o ≡ Some v) × (least ≤ v)
least_of least v None e = absurd (none_some v e)
least_of least v (Some u) e =
    let q = from_else (nat_lt u least) (Some u) v e in
    let same : u ≡ v = same_some u v q.1 in
    (q.1, over u v same q.0)
  where
    over : (u v : ℕ) → u ≡ v → nat_lt u least ≡ false → least ≤ v
    over u v e f = grind (arith, nat_tests)

read_up : (value_of : List ℕ → Option ℕ) (done : List ℕ) (least : ℕ) (ws : Words) (vs : List ℕ)
    → ascending value_of done least ws ≡ Some vs → IsRead value_of done least ws vs
read_up value_of done least [] vs e = record {
  more = [];
  all = sym (same_some done vs e) ∙ sym (append-nil done);
  up = tt;
  spells = tt;
}
read_up value_of done least (w ∷ ws) vs e =
    let q = from_then (λ v. ascending value_of (done ++ v ∷ []) (v + 1) ws)
    (at_least least (value_of w)) vs e in
    let v : ℕ = q.value in
    let own = least_of least v (value_of w) q.there in
    let rest = read_up value_of (done ++ v ∷ []) (v + 1) ws vs q.gives in
    record {
      more = v ∷ rest.more;
      all = rest.all ∙ append_assoc done (v ∷ []) rest.more;
      up = (own.1, rest.up);
      spells = (own.0, rest.spells);
    }

enough : (least v : ℕ) → least ≤ v → nat_lt v least ≡ false
enough least v le = grind (arith, nat_tests)

written_up : (value_of : List ℕ → Option ℕ) (word : ℕ → List ℕ) (done : List ℕ) (least : ℕ)
    (vs : List ℕ) → Ascends least vs → EachIs (λ v. value_of (word v) ≡ Some v) vs
    → ascending value_of done least (map word vs) ≡ Some (done ++ vs)
written_up value_of word done least [] up read = ap Some (sym (append-nil done))
written_up value_of word done least (v ∷ vs) up read =
    rw (read.0, enough least v up.0)
    (written_up value_of word (done ++ v ∷ []) (v + 1) vs up.1 read.1
    ∙ ap Some (append_assoc done (v ∷ []) vs))

-- what spells a value is its word
abbrev pub AreSpelled : (List ℕ → Option ℕ) → (ℕ → List ℕ) → ℕ → Type 0
AreSpelled value_of word most =
    (w : List ℕ) (v : ℕ) → value_of w ≡ Some v → (w ≡ word v) × (v < most)

spelled_words : (value_of : List ℕ → Option ℕ) (word : ℕ → List ℕ) (most : ℕ)
    → AreSpelled value_of word most → (ws : Words) (vs : List ℕ) → Spells value_of ws vs
    → (ws ≡ map word vs) × EachIs (λ v. v < most) vs
spelled_words value_of word most h [] [] s = (refl, tt)
spelled_words value_of word most h (w ∷ ws) (v ∷ vs) s =
    let own = h w v s.0 in
    let rest = spelled_words value_of word most h ws vs s.1 in (
      ap (λ (x : List ℕ). x ∷ ws) own.0 ∙ ap (λ (xs : Words). word v ∷ xs) rest.0,
      (own.1, rest.1),
    )
spelled_words value_of word most h [] (v ∷ vs) s = absurd s
spelled_words value_of word most h (w ∷ ws) [] s = absurd s

each_has : (P : ℕ → Type 0) (vs : List ℕ) → EachIs P vs → (x : ℕ) → has vs x ≡ true → P x
each_has P [] all x t = absurd cc
each_has P (v ∷ vs) all x t = elim (cases_eq x v) [
  | inl e ↦ rw e all.0
  | inr ne ↦ each_has P vs all.1 x (rw (other_value x v ne) at t)
]

abbrev pub set_said : (List ℕ → Option ℕ) → (ℕ → Bool) → Words → Option Set
set_said value_of is_value ws =
    option_and_then (set_of is_value) (ascending value_of [] 0 ws)

abbrev pub IsIn : (ℕ → Bool) → ℕ → Set → Type 0
IsIn is_value most S = (v : ℕ) → IsTrue (S v) → (v < most) × IsTrue (is_value v)

-- the words of a set that is read are those of its values
pub set_only : (value_of : List ℕ → Option ℕ) (word : ℕ → List ℕ) (is_value : ℕ → Bool) (most : ℕ)
    → AreSpelled value_of word most → (ws : Words) (S : Set)
    → set_said value_of is_value ws ≡ Some S
    → (ws ≡ map word (values_below most S)) × IsIn is_value most S
unfolding values_below
set_only value_of word is_value most h ws S e =
    let q = from_then (set_of is_value) (ascending value_of [] 0 ws) S e in
    let r = read_up value_of [] 0 ws q.value q.there in
    let vs : List ℕ = r.more in
    let g = grown is_value empty vs S (ap (set_of is_value) (sym r.all) ∙ q.gives) in
    let s = spelled_words value_of word most h ws vs r.spells in
    let all : filter S (range_with_len 0 most) ≡ vs =
    listed S most 0 most vs (omega arith) r.up s.1 (λ x le. g.0 x) in (
      s.0 ∙ ap (map word) (sym all),
      (λ v t. let in' : has vs v ≡ true = sym (g.0 v) ∙ t in (
        each_has (λ v. v < most) vs s.1 v in',
        each_has (λ v. IsTrue (is_value v)) vs g.1 v in',
      )),
    )

-- a set is read from the words of its values
pub set_back : (value_of : List ℕ → Option ℕ) (word : ℕ → List ℕ) (is_value : ℕ → Bool) (most : ℕ)
    → ((v : ℕ) → v < most → value_of (word v) ≡ Some v) → (S : Set) → IsIn is_value most S
    → set_said value_of is_value (map word (values_below most S)) ≡ Some S
unfolding values_below
set_back value_of word is_value most read S within =
    let vs : List ℕ = filter S (range_with_len 0 most) in
    let up : Ascends 0 vs = members_up S 0 most in
    let kinds : EachIs (λ v. IsTrue (is_value v)) vs =
    members_in S (λ v. IsTrue (is_value v)) most 0 most (omega arith) (λ v lt t. (within v t).1) in
    let m = made is_value empty vs kinds in
    let g = grown is_value empty vs m.0 m.1 in
    let same : (x : ℕ) → m.0 x ≡ S x = λ x. g.0 x ∙ in_set x in
    ap (option_and_then (set_of is_value)) (written_up value_of word [] 0 vs up
    (members_in S (λ v. value_of (word v) ≡ Some v) most 0 most (omega arith)
    (λ v lt t. read v lt)))
    ∙ m.1 ∙ ap (λ (s : Set). Some s) (λ j x. (same x) j)
  where
    beyond : (x : ℕ) → most ≤ x → has (filter S (range_with_len 0 most)) x ≡ false
    beyond x ge = elim (cases_Bool (has (filter S (range_with_len 0 most)) x)) [
      | inl t ↦
          let lt : x < most =
          each_has (λ v. v < most) (filter S (range_with_len 0 most))
          (members_in S (λ v. v < most) most 0 most (omega arith) (λ v lt t. lt)) x t in
          absurd (omega (arith, ge, lt))
      | inr f ↦ f
    ]

    in_set : (x : ℕ) → has (filter S (range_with_len 0 most)) x ≡ S x
    in_set x = elim (cases_lt x most) [
      | inl lt ↦ member S most 0 most x (omega arith) (omega arith) lt
      | inr ge ↦ elim (cases_Bool (S x)) [
        | inl t ↦ absurd (omega (arith, ge, (within x t).0))
        | inr f ↦ beyond x ge ∙ sym f
      ]
    ]
