-- The numbers and names of the faults of a bundle.
use Rattle.std.specs.Prelude.{ℕ, List, codes}
use Rattle.bundles.specs.declared.fault.BundleFault.{BundleFault}
use Rattle.bundles.specs.declared.fault.BundleFault.TheVariants.{NoCommand, NotText, UnknownCommand}
use Rattle.bundles.specs.declared.fault.BundleFault.TheVariants.{Unexpected, MissingSection}
use Rattle.bundles.specs.declared.fault.BundleFault.TheVariants.{BadMessage, BadAnswer, TooLarge}
use Rattle.bundles.specs.declared.fault.BundleFault.TheVariants.{BadSeed}

abbrev pub number_of : BundleFault → ℕ
number_of NoCommand = 1
number_of NotText = 2
number_of UnknownCommand = 3
number_of (Unexpected line) = 4
number_of (MissingSection header) = 5
number_of (BadMessage line flaw) = 6
number_of (BadAnswer line flaw) = 7
number_of TooLarge = 8
number_of (BadSeed line flaw) = 9

abbrev pub name_of : BundleFault → List ℕ
name_of NoCommand = codes "NoCommand"
name_of NotText = codes "NotText"
name_of UnknownCommand = codes "UnknownCommand"
name_of (Unexpected line) = codes "Unexpected"
name_of (MissingSection header) = codes "MissingSection"
name_of (BadMessage line flaw) = codes "BadMessage"
name_of (BadAnswer line flaw) = codes "BadAnswer"
name_of TooLarge = codes "TooLarge"
name_of (BadSeed line flaw) = codes "BadSeed"
