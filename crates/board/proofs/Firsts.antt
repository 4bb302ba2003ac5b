-- Where there is no first element that fails a test, all pass it.
use Rattle.std.proofs.Common.{◌≡◌, ◌∙◌, Bool, true, false, cond, not, ◌&&◌, ltb, length, List, []}
use Rattle.std.proofs.Common.{◌∷◌, find, position, Option, Some, None, refl}
use Rattle.std.specs.List.{list_all, position_or_len}
use Rattle.std.proofs.lemmas.Bool.{ltb-false}
use Rattle.std.proofs.lemmas.Option.{slice_get_past}
use Rattle.std.proofs.lemmas.List.Folds.{find_at}

pub find_none : {X : Type 0} (p : X → Bool) (xs : List X) → position p xs ≡ None → find p xs ≡ None
find_none p xs e = by (ltb (position_or_len p xs) (length xs)) refl e
  where
    by : (b : Bool) → ltb (position_or_len p xs) (length xs) ≡ b
        → cond b (Some (position_or_len p xs)) None ≡ None → find p xs ≡ None
    by true l e = absurd cc
    by false l e =
        find_at p xs
        ∙ slice_get_past xs (position_or_len p xs) (ltb-false (position_or_len p xs) (length xs) l)

one_passes : {X : Type 0} (b : Bool) (x : X) (rest : Option X) (all : Bool)
    → cond (not b) (Some x) rest ≡ None → (rest ≡ None → all ≡ true) → (b && all) ≡ true
one_passes true x rest all e k = k e
one_passes false x rest all e k = absurd cc

pub none_fails : {X : Type 0} (p : X → Bool) (xs : List X) → find (λ x. not (p x)) xs ≡ None
    → list_all p xs ≡ true
none_fails p [] e = refl
none_fails p (x ∷ xs) e =
    one_passes (p x) x (find (λ y. not (p y)) xs) (list_all p xs) e (none_fails p xs)
