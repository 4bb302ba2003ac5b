-- The numbers and the names of the faults.
use Rattle.std.specs.Prelude.{ℕ, List, codes}
use Rattle.smbus.specs.declared.fault.SmbusFault.{SmbusFault}
use Rattle.smbus.specs.declared.fault.SmbusFault.TheVariants as slots
use Rattle.smbus.specs.declared.fault.ObserveFault.{ObserveFault}
use Rattle.smbus.specs.declared.fault.ObserveFault.TheVariants as observe

abbrev pub number_of : SmbusFault → ℕ
number_of slots.Memory = 1
number_of slots.BadBlock = 2
number_of slots.BadData = 3

abbrev pub name_of : SmbusFault → List ℕ
name_of slots.Memory = codes "Memory"
name_of slots.BadBlock = codes "BadBlock"
name_of slots.BadData = codes "BadData"

abbrev pub observe_number_of : ObserveFault → ℕ
observe_number_of observe.Memory = 1
observe_number_of (observe.NotFrames place) = 2

abbrev pub observe_name_of : ObserveFault → List ℕ
observe_name_of observe.Memory = codes "Memory"
observe_name_of (observe.NotFrames place) = codes "NotFrames"
