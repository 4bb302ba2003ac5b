-- The steps of a reading that gave a value.
use Rattle.std.proofs.Common.{◌≡◌, Bool, true, false, not, cond, Option, Some, None, Result, Ok}
use Rattle.std.proofs.Common.{Err, refl}
use Rattle.texts.specs.Reading.{◌>>=◌, some_or, value_if}
use Rattle.board.specs.declared.fault.BoardFault.{BoardFault}
use Rattle.board.specs.Reading.{unless_wrong}

pub bind_ok : {A B : Type 0} (r : Result A BoardFault) (f : A → Result B BoardFault) (y : B)
    → (r >>= f) ≡ Ok y → (x : A) × (r ≡ Ok x) × (f x ≡ Ok y)
bind_ok (Ok x) f y e = (x, refl, e)
bind_ok (Err d) f y e = absurd cc

pub some_ok : {A : Type 0} (d : BoardFault) (o : Option A) (x : A) → some_or d o ≡ Ok x → o ≡ Some x
some_ok d None x e = absurd cc
some_ok d (Some y) x e = cc

pub if_ok : {A : Type 0} (d : BoardFault) (b : Bool) (x y : A) → value_if d b x ≡ Ok y
    → (b ≡ true) × (x ≡ y)
if_ok d true x y e = (refl, cc)
if_ok d false x y e = absurd cc

pub unless_ok : {W A : Type 0} (fault : W → BoardFault) (o : Option W) (x y : A)
    → unless_wrong fault o x ≡ Ok y → (o ≡ None) × (x ≡ y)
unless_ok fault None x y e = (refl, cc)
unless_ok fault (Some w) x y e = absurd cc

pub chosen_some : {A : Type 0} (b : Bool) (x y : A) → cond b (Some x) None ≡ Some y
    → (b ≡ true) × (x ≡ y)
chosen_some true x y e = (refl, cc)
chosen_some false x y e = absurd cc

abbrev read_as : {A : Type 0} → A → Result A BoardFault
read_as x = Ok x

pub ok_is : {A : Type 0} (x y : A) → read_as x ≡ read_as y → x ≡ y
ok_is x y e = cc

pub not_false : (b : Bool) → not b ≡ true → b ≡ false
not_false true e = absurd cc
not_false false e = refl
