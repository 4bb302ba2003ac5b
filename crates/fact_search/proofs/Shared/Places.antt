-- What stands at an index.
use Rattle.std.proofs.Common.{◌≡◌, ◌<◌, ◌+◌, ℕ, zero, suc, Some, None, List, [], ◌∷◌}
use Rattle.std.proofs.Common.{length, slice_get, slice_index_or, All, refl, subst}
use Rattle.std.proofs.Common.{arith}
use Rattle.std.specs.Prelude.{Result, Ok, Err, IfOk, replicate}
use Rattle.board.specs.Boards.{Target, Board}
use Rattle.board.specs.Valid.{IsTarget, IsBoard}
use Rattle.targets.specs.States.{IsTargetAt}

pub some_same : {X : Type 0} (x y : X) → Some x ≡ Some y → x ≡ y
some_same x y e = cc

pub none_some : {X : Type 0} (x : X) → None ≡ Some x → ⊥
none_some x e = cc

-- an element that is there
pub found : {X : Type 0} (xs : List X) (i : ℕ) → i < length xs → (x : X) × (slice_get xs i ≡ Some x)
found [] i lt = absurd (omega (arith, lt))
found (x ∷ xs) zero lt = (x, refl)
found (x ∷ xs) (suc i) lt = let within : i < length xs = omega (arith, lt) in found xs i within

pub within : {X : Type 0} (xs : List X) (i : ℕ) (x : X) → slice_get xs i ≡ Some x → i < length xs
within [] i x e = absurd (none_some x e)
within (y ∷ xs) zero x e = omega arith
within (y ∷ xs) (suc i) x e = let k : i < length xs = within xs i x e in omega (arith, k)

pub index_at : {X : Type 0} (xs : List X) (i : ℕ) (x d : X) → slice_get xs i ≡ Some x
    → slice_index_or xs i d ≡ x
index_at [] i x d e = absurd (none_some x e)
index_at (y ∷ xs) zero x d e = some_same y x e
index_at (y ∷ xs) (suc i) x d e = index_at xs i x d e

-- what holds of all holds there
pub all_at : {X : Type 0} (P : X → Type 0) (xs : List X) (i : ℕ) (x : X) → All P xs
    → slice_get xs i ≡ Some x → P x
all_at P xs i x all e = subst P (index_at xs i x x e) (all i x (within xs i x e))

pub is_target : (b : Board) (i : ℕ) (t : Target) → IsBoard b → IsTargetAt b i t → IsTarget t
is_target b i t is at' = all_at IsTarget b.targets i t is.targets at'

-- the same element of many
pub at_replicate : {X : Type 0} (n i : ℕ) (x d : X) → i < n
    → slice_index_or (replicate n x) i d ≡ x
at_replicate zero i x d lt = absurd (omega (arith, lt))
at_replicate (suc n) zero x d lt = refl
at_replicate (suc n) (suc i) x d lt =
    let less : i < n = omega (arith, lt) in
    at_replicate n i x d less

-- a result's clause in other words
pub ok_to : {X E : Type 0} (r : Result X E) (P Q : X → Type 0) → ((x : X) → P x → Q x)
    → IfOk r P → IfOk r Q
ok_to (Ok x) P Q f h = f x h
ok_to (Err e) P Q f h = tt

pub one_more : (n : ℕ) → suc n ≡ n + 1
one_more n = omega arith
