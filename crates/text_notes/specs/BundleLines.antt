-- The line of a bundle's fault.
use Rattle.std.specs.Prelude.{ℕ, List, codes}
use Rattle.texts.specs.Words.{lines_by_feed}
use Rattle.bundles.specs.declared.fault.BundleFault.{BundleFault}
use Rattle.bundles.specs.declared.fault.BundleFault.TheVariants as faults
use Rattle.notes.specs.declared.level.Level.TheVariants.{Error}
use Rattle.notes.specs.declared.note.Note.{Note}
use Rattle.notes.specs.Notes.{IsOn}

-- a fault's own line, or the first, which has the command
abbrev pub line_in : BundleFault → ℕ
line_in (faults.Unexpected line) = line
line_in (faults.BadMessage line flaw) = line
line_in (faults.BadAnswer line flaw) = line
line_in (faults.BadSeed line flaw) = line
line_in fault = 1

-- the note is on the line of the bundle with this number
abbrev pub IsOnBundleLine : List ℕ → ℕ → Note → Type 0
IsOnBundleLine text line note = IsOn Error (codes "bundle") line (lines_by_feed text) note
