-- Places in a list beside places in another one made of it.
use Rattle.std.proofs.Common.{◌≡◌, List, [], ◌∷◌, map, length, suc, Bool, position, refl, ap}
use Rattle.std.specs.List.{position_or_len}

pub length_of_map : {X Y : Type 0} (f : X → Y) (xs : List X) → length (map f xs) ≡ length xs
length_of_map f [] = refl
length_of_map f (x ∷ xs) = ap suc (length_of_map f xs)

first_of_map : {X Y : Type 0} (p : Y → Bool) (f : X → Y) (xs : List X)
    → position_or_len p (map f xs) ≡ position_or_len (λ x. p (f x)) xs
first_of_map p f [] = refl
first_of_map p f (x ∷ xs) = rw (first_of_map p f xs)

pub position-map : {X Y : Type 0} (p : Y → Bool) (f : X → Y) (xs : List X)
    → position p (map f xs) ≡ position (λ x. p (f x)) xs
position-map p f xs = rw (first_of_map p f xs, length_of_map f xs)
