-- The mantissa that is computed is the nearest one, and the only one.
use Rattle.std.proofs.Common.{◌≡◌, ◌+◌, ◌*◌, ◌/◌, nat_le, arith, inl, inr}
use Rattle.std.proofs.lemmas.Bool.{cases_Bool}
use Rattle.std.proofs.lemmas.Bool.Decides.{nat_tests}
use Rattle.plans.specs.Volts.{NearestIsFound, NearestIsOne}

pub nearest_is_found : NearestIsFound
nearest_is_found microvolts in_volt =
    elim (cases_Bool (nat_le ((microvolts * in_volt + 500000) / 1000000) 65535)) [
      | inl t ↦ rw t (record { not_above = omega arith; not_below = omega arith })
      | inr f ↦ rw f tt
    ]

pub nearest_is_one : NearestIsOne
nearest_is_one microvolts in_volt mantissa few near =
    let e : (microvolts * in_volt + 500000) / 1000000 ≡ mantissa =
    omega (arith, near.not_above, near.not_below) in
    rw e (grind (arith, nat_tests))
