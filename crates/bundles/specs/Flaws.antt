-- What is wrong with a line that is no message or no answer.
use Rattle.std.specs.Prelude.{List, length, Result, Ok, Err}
use Rattle.texts.specs.declared.reading.ReadError.{ReadError}
use Rattle.texts.specs.declared.reading.ReadError.TheVariants as errors
use Rattle.bundles.specs.declared.fault.BundleFault.{BundleFault}
use Rattle.bundles.specs.declared.flaw.Flaw.{Flaw}
use Rattle.bundles.specs.declared.flaw.Flaw.TheVariants as flaws
use Rattle.bundles.specs.declared.flaw.Key.{Key}
use Rattle.bundles.specs.Bundles.{Line}

-- the field of a key, whose word comes first in what is left of a line, if it is there
abbrev pub bad_field : Key → List Line → Flaw
bad_field key words = flaws.Field key (length words)

-- the first of the words that are left, which no field takes
abbrev pub bad_word : List Line → Flaw
bad_word words = flaws.Word (length words)

-- what a line with a number gives, its flaw as a fault of the bundle
abbrev pub told : {A : Type 0} → (Flaw → BundleFault) → Result A Flaw → Result A BundleFault
told fault (Ok x) = Ok x
told fault (Err flaw) = Err (fault flaw)

-- the error of a reader, with its flaw as a fault
abbrev pub at_line : (Flaw → BundleFault) → ReadError Flaw → ReadError BundleFault
at_line fault errors.Memory = errors.Memory
at_line fault (errors.Fault flaw) = errors.Fault (fault flaw)
