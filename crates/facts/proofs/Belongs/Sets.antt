-- Sets of pages and of protections by the values that are looked at.
use Rattle.std.proofs.Common.{◌≡◌, ◌≢◌, ℕ, zero, suc, ◌↔◌, List, [], ◌∷◌, inl, inr}
use Rattle.std.proofs.Common.{arith, IsTrue, Bool, map, sym, subst, ◌||◌, ◌&&◌, ◌==◌}
use Rattle.std.proofs.Common.{refl, ap, ◌∙◌, nat_lt, min}
use Rattle.std.proofs.lemmas.Bool.{cases_eq}
use Rattle.std.proofs.lemmas.Bool.Decides.{nat_tests}
use Rattle.board.specs.Valid.{is_page_value}
use Rattle.pmbus_table.specs.Protect.{is_protection}
use Rattle.facts.specs.domain.Sets.{Set, pages_in, protects_in, is_page, is_protect, page_bit}
use Rattle.facts.specs.domain.Sets.{gains}
use Rattle.facts.specs.domain.Sets.{HasValue}
use Rattle.facts.specs.domain.SetLaws.{in_kind}
use Rattle.facts.specs.domain.Rows.{set_at, IsSetOf, SetCovers}
use Rattle.facts.proofs.Belongs.EachTargets.{false_true}
use Rattle.facts.proofs.Coded.Placed.{and_both, and_right}

pub page_at : (xs : List ℕ) (i v : ℕ) → IsTrue (set_at (map pages_in xs) i v) → IsTrue (is_page v)
page_at [] i v t = absurd (false_true t)
page_at (x ∷ xs) zero v t = in_kind _ _ t
page_at (x ∷ xs) (suc i) v t = page_at xs i v t

pub protect_at : (xs : List ℕ) (i v : ℕ) → IsTrue (set_at (map protects_in xs) i v)
    → IsTrue (is_protect v)
protect_at [] i v t = absurd (false_true t)
protect_at (x ∷ xs) zero v t = in_kind _ _ t
protect_at (x ∷ xs) (suc i) v t = protect_at xs i v t

not_other : (v : ℕ) → v ≢ 0 → v ≢ 32 → v ≢ 64 → v ≢ 128 → IsTrue (is_protect v) → ⊥
not_other v a b c d t = grind (arith, nat_tests)

value_of : (v : ℕ) (P : ℕ → Type 0) → IsTrue (is_protect v) → P 0 → P 32 → P 64 → P 128 → P v
value_of v P t a b c d =
    elim (cases_eq v 0) [
      | inl e ↦ subst P (sym e) a
      | inr n0 ↦ elim (cases_eq v 32) [
        | inl e ↦ subst P (sym e) b
        | inr n1 ↦ elim (cases_eq v 64) [
          | inl e ↦ subst P (sym e) c
          | inr n2 ↦ elim (cases_eq v 128) [
            | inl e ↦ subst P (sym e) d
            | inr n3 ↦ absurd (not_other v n0 n1 n2 n3 t)
          ]
        ]
      ]
    ]

-- a set of protections has no other values
pub protect_set : (xs : List ℕ) (i : ℕ) (x : Bool)
    → IsTrue x ↔ HasValue (set_at (map protects_in xs) i)
    → IsTrue x ↔ IsSetOf (λ v. IsTrue (is_protection v)) (set_at (map protects_in xs) i)
unfolding HasValue
protect_set xs i x some = (
  λ t. record {
    some = some.0 t;
    each = λ v in'. value_of v (λ n. IsTrue (is_protection n)) (protect_at xs i v in')
        refl refl refl refl;
  },
  λ h. some.1 h.some,
)

-- all values of a target with so many pages
value_places : (pages v : ℕ)
    → (is_page v && nat_lt (page_bit v) (min pages 32) || v == 255)
    ≡ (is_page v && is_page_value pages v)
value_places pages v = grind (arith, nat_tests)

pub all_values : (pages bits low most : ℕ) → pages_in bits ≡ gains (pages_in low) 255
    → pages_in low ≡ (λ v. is_page v && nat_lt (page_bit v) most) → most ≡ min pages 32
    → pages_in bits ≡ λ v. is_page v && is_page_value pages v
all_values pages bits low most e lowest least =
    e ∙ ap (λ s. gains s 255) lowest
    ∙ ap (λ n v. is_page v && nat_lt (page_bit v) n || v == 255) least
    ∙ (λ j v. value_places pages v j)

-- a set among all values of so many pages
pub all_below : (xs : List ℕ) (i pages of' at' : ℕ) (x : Bool)
    → pages_in of' ≡ (λ v. is_page v && is_page_value pages v)
    → pages_in at' ≡ set_at (map pages_in xs) i
    → IsTrue x ↔ SetCovers (pages_in of') (pages_in at')
    → IsTrue x ↔ ((v : ℕ) → IsTrue (set_at (map pages_in xs) i v) → IsTrue (is_page_value pages v))
all_below xs i pages of' at' x all here covers = (
  λ t v in'. and_right (is_page v) (is_page_value pages v)
      (subst (λ (s : Set). IsTrue (s v)) all
      (covers.0 t v (subst (λ (s : Set). IsTrue (s v)) (sym here) in'))),
  λ each. covers.1 (λ v in'.
      let there : IsTrue (set_at (map pages_in xs) i v) =
      subst (λ (s : Set). IsTrue (s v)) here in' in
      subst (λ (s : Set). IsTrue (s v)) (sym all)
      (and_both (is_page v) (is_page_value pages v) (page_at xs i v there) (each v there))),
)
