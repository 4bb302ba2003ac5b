-- What a viewer reads from marks: from left to right, with the ticks so far and the levels so far.
use Rattle.std.specs.Prelude.{◌≢◌, ◌<◌, ℕ, ◌-◌, Bool, List, [], ◌∷◌, ◌++◌, replicate}
use Rattle.wires.specs.declared.lines.Sample.{Sample}
use Rattle.wires.specs.declared.wave.drawing.Wire.{Wire}
use Rattle.wires.specs.declared.wave.drawing.Wire.TheVariants.{Scl, Sda, Smbalert}
use Rattle.wires.specs.Marks.{Mark, Stamp, Place, Level}

abbrev pub level_at : Wire → Sample → Bool
level_at Scl levels = levels.scl
level_at Sda levels = levels.sda
level_at Smbalert levels = levels.alert

-- the levels with this one for the wire
abbrev pub level_set : Wire → Bool → Sample → Sample
level_set Scl level levels = record levels { scl = level }
level_set Sda level levels = record levels { sda = level }
level_set Smbalert level levels = record levels { alert = level }

-- the last stamp, and the levels behind the last mark

abbrev pub ticks_after : ℕ → List Mark → ℕ
ticks_after now [] = now
ticks_after now (Stamp ticks ∷ marks) = ticks_after ticks marks
ticks_after now (Place place ∷ marks) = ticks_after now marks
ticks_after now (Level wire level ∷ marks) = ticks_after now marks

abbrev pub levels_after : Sample → List Mark → Sample
levels_after levels [] = levels
levels_after levels (Stamp ticks ∷ marks) = levels_after levels marks
levels_after levels (Place place ∷ marks) = levels_after levels marks
levels_after levels (Level wire level ∷ marks) = levels_after (level_set wire level levels) marks

-- the levels in each tick up to the last stamp
abbrev pub samples_read : ℕ → Sample → List Mark → List Sample
samples_read now levels [] = []
samples_read now levels (Stamp ticks ∷ marks) =
    replicate (ticks - now) levels ++ samples_read ticks levels marks
samples_read now levels (Place place ∷ marks) = samples_read now levels marks
samples_read now levels (Level wire level ∷ marks) =
    samples_read now (level_set wire level levels) marks

-- the places, each with its tick
abbrev pub places_read : ℕ → List Mark → List (ℕ × ℕ)
places_read now [] = []
places_read now (Stamp ticks ∷ marks) = places_read ticks marks
places_read now (Place place ∷ marks) = (place, now) ∷ places_read now marks
places_read now (Level wire level ∷ marks) = places_read now marks

-- each level differs from the one that its wire had
abbrev pub ChangesAlone : Sample → List Mark → Type 0
ChangesAlone levels [] = Unit {0}
ChangesAlone levels (Stamp ticks ∷ marks) = ChangesAlone levels marks
ChangesAlone levels (Place place ∷ marks) = ChangesAlone levels marks
ChangesAlone levels (Level wire level ∷ marks) =
    (level_at wire levels ≢ level) × ChangesAlone (level_set wire level levels) marks

-- each stamp is above the one before
abbrev pub Rises : ℕ → List Mark → Type 0
Rises now [] = Unit {0}
Rises now (Stamp ticks ∷ marks) = (now < ticks) × Rises ticks marks
Rises now (Place place ∷ marks) = Rises now marks
Rises now (Level wire level ∷ marks) = Rises now marks
