-- What a viewer reads from marks behind other marks.
use Rattle.std.proofs.Common.{◌≡◌, ℕ, ◌-◌, List, [], ◌∷◌, ◌++◌, replicate, refl, sym, ap, ◌∙◌}
use Rattle.std.proofs.Common.{append_assoc}
use Rattle.wires.specs.declared.lines.Sample.{Sample}
use Rattle.wires.specs.Marks.{Mark, Stamp, Place, Level}
use Rattle.wires.specs.Viewed.{level_set, ticks_after, levels_after, samples_read, places_read}
use Rattle.wires.specs.Viewed.{ChangesAlone, Rises}

pub ticks_after-append : (now : ℕ) (marks more : List Mark)
    → ticks_after now (marks ++ more) ≡ ticks_after (ticks_after now marks) more
ticks_after-append now [] more = refl
ticks_after-append now (Stamp ticks ∷ marks) more = ticks_after-append ticks marks more
ticks_after-append now (Place place ∷ marks) more = ticks_after-append now marks more
ticks_after-append now (Level wire level ∷ marks) more = ticks_after-append now marks more

pub levels_after-append : (levels : Sample) (marks more : List Mark)
    → levels_after levels (marks ++ more) ≡ levels_after (levels_after levels marks) more
levels_after-append levels [] more = refl
levels_after-append levels (Stamp ticks ∷ marks) more = levels_after-append levels marks more
levels_after-append levels (Place place ∷ marks) more = levels_after-append levels marks more
levels_after-append levels (Level wire level ∷ marks) more =
    levels_after-append (level_set wire level levels) marks more

pub samples_read-append : (now : ℕ) (levels : Sample) (marks more : List Mark)
    → samples_read now levels (marks ++ more)
    ≡ samples_read now levels marks
    ++ samples_read (ticks_after now marks) (levels_after levels marks) more
samples_read-append now levels [] more = refl
samples_read-append now levels (Stamp ticks ∷ marks) more =
    ap (λ l. replicate (ticks - now) levels ++ l) (samples_read-append ticks levels marks more)
    ∙ sym (append_assoc (replicate (ticks - now) levels) (samples_read ticks levels marks)
    (samples_read (ticks_after ticks marks) (levels_after levels marks) more))
samples_read-append now levels (Place place ∷ marks) more =
    samples_read-append now levels marks more
samples_read-append now levels (Level wire level ∷ marks) more =
    samples_read-append now (level_set wire level levels) marks more

pub places_read-append : (now : ℕ) (marks more : List Mark)
    → places_read now (marks ++ more)
    ≡ places_read now marks ++ places_read (ticks_after now marks) more
places_read-append now [] more = refl
places_read-append now (Stamp ticks ∷ marks) more = places_read-append ticks marks more
places_read-append now (Place place ∷ marks) more =
    ap (λ l. (place, now) ∷ l) (places_read-append now marks more)
places_read-append now (Level wire level ∷ marks) more = places_read-append now marks more

pub ChangesAlone-append : (levels : Sample) (marks more : List Mark) → ChangesAlone levels marks
    → ChangesAlone (levels_after levels marks) more → ChangesAlone levels (marks ++ more)
ChangesAlone-append levels [] more alone then = then
ChangesAlone-append levels (Stamp ticks ∷ marks) more alone then =
    ChangesAlone-append levels marks more alone then
ChangesAlone-append levels (Place place ∷ marks) more alone then =
    ChangesAlone-append levels marks more alone then
ChangesAlone-append levels (Level wire level ∷ marks) more alone then =
    (alone.0, ChangesAlone-append (level_set wire level levels) marks more alone.1 then)

pub Rises-append : (now : ℕ) (marks more : List Mark) → Rises now marks
    → Rises (ticks_after now marks) more → Rises now (marks ++ more)
Rises-append now [] more rises then = then
Rises-append now (Stamp ticks ∷ marks) more rises then =
    (rises.0, Rises-append ticks marks more rises.1 then)
Rises-append now (Place place ∷ marks) more rises then = Rises-append now marks more rises then
Rises-append now (Level wire level ∷ marks) more rises then =
    Rises-append now marks more rises then
