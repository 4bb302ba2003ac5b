-- An option that is there.
use Rattle.std.proofs.Common.{◌≡◌, Option, Some, None, Ok, ok_or}

pub some_of_ok : {A E : Type 0} (o : Option A) (fault : E) (x : A) → ok_or o fault ≡ Ok x
    → o ≡ Some x
some_of_ok None fault x e = absurd cc
some_of_ok (Some y) fault x e = cc
