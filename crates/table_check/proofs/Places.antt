-- What stands at an index of a list.
use Rattle.std.proofs.Common.{◌≡◌, ◌<◌, ℕ, zero, suc, Some, None, List, [], ◌∷◌, length, slice_get}
use Rattle.std.proofs.Common.{slice_index_or, All, refl, subst, arith}

pub some_same : {X : Type 0} (x y : X) → Some x ≡ Some y → x ≡ y
some_same x y e = cc

pub none_some : {X : Type 0} (x : X) → None ≡ Some x → ⊥
none_some x e = cc

-- an element that is there
pub found : {X : Type 0} (xs : List X) (i : ℕ) → i < length xs → (x : X) × (slice_get xs i ≡ Some x)
found [] i lt = absurd (omega (arith, lt))
found (x ∷ xs) zero lt = (x, refl)
found (x ∷ xs) (suc i) lt = let within : i < length xs = omega (arith, lt) in found xs i within

within : {X : Type 0} (xs : List X) (i : ℕ) (x : X) → slice_get xs i ≡ Some x → i < length xs
within [] i x e = absurd (none_some x e)
within (y ∷ xs) zero x e = omega arith
within (y ∷ xs) (suc i) x e = let k : i < length xs = within xs i x e in omega (arith, k)

index_at : {X : Type 0} (xs : List X) (i : ℕ) (x d : X) → slice_get xs i ≡ Some x
    → slice_index_or xs i d ≡ x
index_at [] i x d e = absurd (none_some x e)
index_at (y ∷ xs) zero x d e = some_same y x e
index_at (y ∷ xs) (suc i) x d e = index_at xs i x d e

-- what holds of all holds there
pub all_at : {X : Type 0} (P : X → Type 0) (xs : List X) (i : ℕ) (x : X) → All P xs
    → slice_get xs i ≡ Some x → P x
all_at P xs i x all e = subst P (index_at xs i x x e) (all i x (within xs i x e))
