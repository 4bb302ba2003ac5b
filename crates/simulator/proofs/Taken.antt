-- One element more of those that were gone over.
use Rattle.std.proofs.Common.{◌≡◌, ◌<◌, ◌+◌, ℕ, zero, suc, List, [], ◌∷◌, ◌++◌, length, take}
use Rattle.std.proofs.Common.{slice_index_or, refl, ap, ◌∙◌, arith}

take_next : {X : Type 0} (xs : List X) (i : ℕ) (d : X) → i < length xs
    → take (suc i) xs ≡ take i xs ++ slice_index_or xs i d ∷ []
take_next [] i d lt = absurd (omega (arith, lt))
take_next (x ∷ xs) zero d lt = refl
take_next (x ∷ xs) (suc i) d lt =
    let within : i < length xs = omega (arith, lt) in
    ap (λ (later : List _). x ∷ later) (take_next xs i d within)

pub take_more : {X : Type 0} (xs : List X) (i : ℕ) (d : X) → i < length xs
    → take (i + 1) xs ≡ take i xs ++ slice_index_or xs i d ∷ []
take_more xs i d lt =
    let next : i + 1 ≡ suc i = omega arith in
    ap (λ (n : ℕ). take n xs) next ∙ take_next xs i d lt
