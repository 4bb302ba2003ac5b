-- What an option that is there came from.
use Rattle.std.proofs.Common.{◌≡◌, Bool, true, false, Option, Some, None, option_map}
use Rattle.std.proofs.Common.{option_and_then, if◌then◌else◌, refl}

pub none_some : {X : Type 0} (x : X) → None ≡ Some x → ⊥
none_some x e = cc

pub same_some : {X : Type 0} (x y : X) → Some x ≡ Some y → x ≡ y
same_some x y e = cc

-- a value and where it is from
pub record From {X Y : Type 0} (f : X → Option Y) (o : Option X) (y : Y) : Type 0 where
  pub value : X
  pub there : o ≡ Some value
  pub gives : f value ≡ Some y

pub from_then : {X Y : Type 0} (f : X → Option Y) (o : Option X) (y : Y)
    → option_and_then f o ≡ Some y → From f o y
from_then f None y e = absurd (none_some y e)
from_then f (Some x) y e = record { value = x; there = refl; gives = e }

pub record Image {X Y : Type 0} (f : X → Y) (o : Option X) (y : Y) : Type 0 where
  pub value : X
  pub there : o ≡ Some value
  pub is : f value ≡ y

pub from_map : {X Y : Type 0} (f : X → Y) (o : Option X) (y : Y) → option_map f o ≡ Some y
    → Image f o y
from_map f None y e = absurd (none_some y e)
from_map f (Some x) y e = record { value = x; there = refl; is = same_some (f x) y e }

pub from_if : {Y : Type 0} (b : Bool) (o : Option Y) (y : Y) → (if b then o else None) ≡ Some y
    → (b ≡ true) × (o ≡ Some y)
from_if true o y e = (refl, e)
from_if false o y e = absurd (none_some y e)

pub from_else : {Y : Type 0} (b : Bool) (o : Option Y) (y : Y) → (if b then None else o) ≡ Some y
    → (b ≡ false) × (o ≡ Some y)
from_else true o y e = absurd (none_some y e)
from_else false o y e = (refl, e)
