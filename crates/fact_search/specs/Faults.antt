-- The numbers, the names and the places of the faults.
use Rattle.std.specs.Prelude.{ℕ, List, Option, Some, None, codes}
use Rattle.fact_search.specs.declared.fault.FindFault.{FindFault}
use Rattle.fact_search.specs.declared.fault.FindFault.TheVariants as fault

abbrev pub number_of : FindFault → ℕ
number_of fault.Memory = 1
number_of (fault.GaveUp place) = 2

abbrev pub name_of : FindFault → List ℕ
name_of fault.Memory = codes "Memory"
name_of (fault.GaveUp place) = codes "GaveUp"

abbrev pub place_of : FindFault → Option ℕ
place_of fault.Memory = None
place_of (fault.GaveUp place) = Some place
