-- What stands at an index, and the one target of an address.
use Rattle.std.proofs.Common.{◌≡◌, ◌<◌, ℕ, zero, suc, Some, None, List, [], ◌∷◌, length, slice_get}
use Rattle.std.proofs.Common.{slice_index_or, All, refl, sym, ap, subst, ◌∙◌, inl, inr, arith}
use Rattle.std.proofs.lemmas.Bool.{cases_lt}
use Rattle.board.specs.Boards.{Target, Board}
use Rattle.board.specs.Valid.{IsBoard}
use Rattle.targets.specs.States.{IsTargetAt}

pub some_same : {X : Type 0} (x y : X) → Some x ≡ Some y → x ≡ y
some_same x y e = cc

pub none_some : {X : Type 0} (x : X) → None ≡ Some x → ⊥
none_some x e = cc

pub same_at : {X : Type 0} (xs : List X) (i : ℕ) (x y : X) → slice_get xs i ≡ Some x
    → slice_get xs i ≡ Some y → x ≡ y
same_at xs i x y e f = some_same x y (sym e ∙ f)

pub within : {X : Type 0} (xs : List X) (i : ℕ) (x : X) → slice_get xs i ≡ Some x → i < length xs
within [] i x e = absurd (none_some x e)
within (y ∷ xs) zero x e = omega arith
within (y ∷ xs) (suc i) x e = let k : i < length xs = within xs i x e in omega (arith, k)

pub index_at : {X : Type 0} (xs : List X) (i : ℕ) (x d : X) → slice_get xs i ≡ Some x
    → slice_index_or xs i d ≡ x
index_at [] i x d e = absurd (none_some x e)
index_at (y ∷ xs) zero x d e = some_same y x e
index_at (y ∷ xs) (suc i) x d e = index_at xs i x d e

-- an element that is there
pub found : {X : Type 0} (xs : List X) (i : ℕ) → i < length xs
    → (x : X) × (slice_get xs i ≡ Some x)
found [] i lt = absurd (omega (arith, lt))
found (x ∷ xs) zero lt = (x, refl)
found (x ∷ xs) (suc i) lt = let below : i < length xs = omega (arith, lt) in found xs i below

-- what holds of all holds there
pub all_at : {X : Type 0} (P : X → Type 0) (xs : List X) (i : ℕ) (x : X) → All P xs
    → slice_get xs i ≡ Some x → P x
all_at P xs i x all e = subst P (index_at xs i x x e) (all i x (within xs i x e))

-- two targets of one address are one
apart : (b : Board) → IsBoard b → (i j : ℕ) (t u : Target) → IsTargetAt b i t → IsTargetAt b j u
    → t.address ≡ u.address → i < j → ⊥
apart b is i j t u ti uj same lt =
    let x = index_at b.targets i t t ti in
    let y = index_at b.targets j u t uj in
    is.addresses i j t lt (within b.targets j u uj)
    (ap (λ (z : Target). z.address) x ∙ (same ∙ ap (λ (z : Target). z.address) (sym y)))

pub only_one : (b : Board) → IsBoard b → (i j : ℕ) (t u : Target) → IsTargetAt b i t
    → IsTargetAt b j u → t.address ≡ u.address → i ≡ j
only_one b is i j t u ti uj same = elim (cases_lt i j) [
  | inl lt ↦ absurd (apart b is i j t u ti uj same lt)
  | inr le ↦ elim (cases_lt j i) [
    | inl lt ↦ absurd (apart b is j i u t uj ti (sym same) lt)
    | inr ge ↦ omega
        arith
  ]
]
