-- What an observer keeps beside its value.
use Rattle.std.specs.Prelude.{◌≡◌, Some}
use Rattle.smbus.specs.Control.{control_after}
use Rattle.smbus.specs.Observers.{Observing, IsObserving}
use Rattle.smbus.specs.declared.control.Control.{Control}
use Rattle.smbus.specs.declared.control.Control.TheVariants.{Free}

-- the control is the one after the rest
pub record IsKept (o : Observing) (c : Control) : Type 0 where
  pub is : IsObserving o
  pub control : control_after o.rest Free ≡ Some c
