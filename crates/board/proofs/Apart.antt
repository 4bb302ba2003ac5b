-- Elements of lists by their places.
use Rattle.std.proofs.Common.{◌≡◌, ◌≢◌, ℕ, zero, suc, ◌<◌, Bool, true, false, List, [], ◌∷◌, ◌++◌}
use Rattle.std.proofs.Common.{length, get_or, map, slice_get, Some, refl, sym, ap, inl, inr, ◌⊎◌}
use Rattle.std.proofs.Common.{arith}
use Rattle.std.specs.List.{list_any, All, AllPairs}
use Rattle.std.specs.Str.{bytes_eq}
use Rattle.std.proofs.lemmas.List.Folds.{list_any_at}
use Rattle.std.proofs.lemmas.List.{get_or-map}
use Rattle.std.proofs.lemmas.Slice.Eq.{bytes_eq-Decides}
use Rattle.board.specs.Named.{is_named}
use Rattle.std.proofs.lemmas.List.{length-map}

-- no element passes a test that none passes
pub fails_at : {X : Type 0} (p : X → Bool) (xs : List X) (k : ℕ) (d : X) → list_any p xs ≡ false
    → k < length xs → p (get_or xs k d) ≡ false
fails_at p xs k d e h = by (p (get_or xs k d)) refl
  where
    by : (b : Bool) → p (get_or xs k d) ≡ b → b ≡ false
    by true t = absurd (both (list_any p xs) (list_any_at p xs k d h t) e)
      where
        both : (b : Bool) → b ≡ true → b ≡ false → ⊥
        both true s f = cc
        both false s f = cc
    by false t = refl

-- a new name differs from each of the others
pub names_differ : (names : List (List ℕ)) (name : List ℕ) → is_named name names ≡ false
    → (k : ℕ) (d : List ℕ) → k < length names → get_or names k d ≢ name
names_differ names name e k d h s =
    let f = fails_at (bytes_eq name) names k d e h in
    let t = (bytes_eq-Decides name (get_or names k d)).1 (sym s) in
    cc

-- what holds of a list's images holds of the list, as seen through them
pub All-unmap : {X Y : Type 0} (P : Y → Type 0) (f : X → Y) (xs : List X) → All P (map f xs)
    → All (λ x. P (f x)) xs
All-unmap P f xs a k d h =
    let there : k < length (map f xs) = rw length-map h in
    rw (← get_or-map f xs k d (f d) h) (a k (f d) there)

pub AllPairs-unmap : {X Y : Type 0} (R : Y → Y → Type 0) (f : X → Y) (xs : List X)
    → AllPairs R (map f xs) → AllPairs (λ x y. R (f x) (f y)) xs
AllPairs-unmap R f xs a i j d g h =
    let there : j < length (map f xs) = rw length-map h in
    let first : i < length xs = omega arith in
    rw (← get_or-map f xs i d (f d) first, ← get_or-map f xs j d (f d) h) (a i j (f d) g there)

-- one more at the end of a list
pub push_cases : {X : Type 0} (xs : List X) (x y : X) (k : ℕ) → slice_get (xs ++ x ∷ []) k ≡ Some y
    → (slice_get xs k ≡ Some y) ⊎ ((k ≡ length xs) × (x ≡ y))
push_cases [] x y zero e = inr (refl, cc)
push_cases [] x y (suc k) e = absurd cc
push_cases (z ∷ xs) x y zero e = inl e
push_cases (z ∷ xs) x y (suc k) e = elim (push_cases xs x y k e) [
  | inl s ↦ inl s
  | inr s ↦ inr (ap suc s.0, s.1)
]
