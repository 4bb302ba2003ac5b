-- The marks of a step, from the ticks and the levels before it and its runs of equal levels.
use Rattle.std.specs.Prelude.{ℕ, ◌+◌, Bool, true, false, List, [], ◌∷◌, ◌++◌}
use Rattle.wires.specs.declared.lines.Sample.{Sample}
use Rattle.wires.specs.declared.runs.Run.{Run}
use Rattle.wires.specs.declared.wave.drawing.Wire.{Wire}
use Rattle.wires.specs.declared.wave.drawing.Wire.TheVariants.{Scl, Sda, Smbalert}
use Rattle.wires.specs.Marks.{Mark, Stamp, Place, Level}

-- the mark of a wire where its level changes
abbrev pub change : Wire → Bool → Bool → List Mark
change wire true true = []
change wire false false = []
change wire true false = Level wire false ∷ []
change wire false true = Level wire true ∷ []

abbrev pub changes : Sample → Sample → List Mark
changes before after =
    change Scl before.scl after.scl
    ++ (change Sda before.sda after.sda ++ change Smbalert before.alert after.alert)

-- at the beginning of each run the changes, and at its end a stamp
abbrev pub run_marks : ℕ → Sample → List Run → List Mark
run_marks start levels [] = []
run_marks start levels (r ∷ later) =
    changes levels r.sample ++ Stamp (start + r.end) ∷ run_marks start r.sample later

abbrev pub step_marks : ℕ → Sample → ℕ → List Run → List Mark
step_marks start levels place runs = Place place ∷ run_marks start levels runs

-- the levels behind the last run
abbrev pub levels_behind : Sample → List Run → Sample
levels_behind levels [] = levels
levels_behind levels (r ∷ later) = levels_behind r.sample later
