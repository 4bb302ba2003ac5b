-- The numbers and the names of the kinds of faults.
use Rattle.std.specs.Prelude.{ℕ, List, codes}
use Rattle.board.specs.declared.fault.FaultKind.{FaultKind}
use Rattle.board.specs.declared.fault.FaultKind.TheVariants as fault

abbrev pub number_of : FaultKind → ℕ
number_of fault.Memory = 1
number_of fault.Toml = 2
number_of fault.MissingKey = 3
number_of fault.BadAddress = 4
number_of fault.SameAddress = 5
number_of fault.SameName = 6
number_of fault.TooMany = 7
number_of fault.BadExponent = 8
number_of fault.BadRange = 9
number_of fault.UnknownCommand = 10
number_of fault.UnknownNeed = 11
number_of fault.BadStart = 12
number_of fault.BadStretch = 13
number_of fault.SelfNeed = 14
number_of fault.BadRail = 15
number_of fault.BadKey = 16

abbrev pub name_of : FaultKind → List ℕ
name_of fault.Memory = codes "Memory"
name_of fault.Toml = codes "Toml"
name_of fault.MissingKey = codes "MissingKey"
name_of fault.BadAddress = codes "BadAddress"
name_of fault.SameAddress = codes "SameAddress"
name_of fault.SameName = codes "SameName"
name_of fault.TooMany = codes "TooMany"
name_of fault.BadExponent = codes "BadExponent"
name_of fault.BadRange = codes "BadRange"
name_of fault.UnknownCommand = codes "UnknownCommand"
name_of fault.UnknownNeed = codes "UnknownNeed"
name_of fault.BadStart = codes "BadStart"
name_of fault.BadStretch = codes "BadStretch"
name_of fault.SelfNeed = codes "SelfNeed"
name_of fault.BadRail = codes "BadRail"
name_of fault.BadKey = codes "BadKey"
