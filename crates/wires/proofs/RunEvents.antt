-- No event comes within a run, so the events of runs are those of one sample each.
use Rattle.std.proofs.Common.{◌≡◌, ℕ, zero, suc, ◌-◌, ◌<◌, Bool, true, false, List, [], ◌∷◌, ◌++◌}
use Rattle.std.proofs.Common.{map, replicate, refl, sym, ap, ◌∙◌, arith}
use Rattle.wires.specs.declared.lines.Sample.{Sample}
use Rattle.wires.specs.declared.runs.Run.{Run}
use Rattle.wires.specs.Events.{change, events_between, events_after, events_of}
use Rattle.wires.specs.Runs.{levels_in, samples_after, samples_of, EndAfter}

no_change : (scl sda : Bool) → change scl scl sda sda ≡ []
no_change true true = refl
no_change true false = refl
no_change false true = refl
no_change false false = refl

events_after-replicate : (s : Sample) (count : ℕ) (later : List Sample)
    → events_after s (replicate count s ++ later) ≡ events_after s later
events_after-replicate s zero later = refl
events_after-replicate s (suc count) later =
    rw (no_change s.scl s.sda) (events_after-replicate s count later)

-- a run of at least one sample
events_after-run : (before s : Sample) (count : ℕ) (later : List Sample) → 0 < count
    → events_after before (replicate count s ++ later)
    ≡ events_between before s ++ events_after s later
events_after-run before s zero later some = absurd (omega arith)
events_after-run before s (suc count) later some =
    ap (λ l. events_between before s ++ l) (events_after-replicate s count later)

events_after-runs : (before : Sample) (start : ℕ) (runs : List Run) → EndAfter start runs
    → events_after before (samples_after start runs)
    ≡ events_after before (map (λ (r : Run). r.sample) runs)
events_after-runs before start [] rising = refl
events_after-runs before start (r ∷ later) rising =
    let lt : start < r.end = rising.0 in
    events_after-run before r.sample (r.end - start) (samples_after r.end later) (omega arith)
    ∙ ap (λ l. events_between before r.sample ++ l)
    (events_after-runs r.sample r.end later rising.1)

events_of-run : (s : Sample) (count : ℕ) (later : List Sample) → 0 < count
    → events_of (replicate count s ++ later) ≡ events_after s later
events_of-run s zero later some = absurd (omega arith)
events_of-run s (suc count) later some = events_after-replicate s count later

events_of-runs : (r : Run) (later : List Run) → EndAfter 0 (r ∷ later)
    → events_of (samples_of (r ∷ later))
    ≡ events_after r.sample (map (λ (r : Run). r.sample) later)
events_of-runs r later rising =
    let lt : 0 < r.end = rising.0 in
    events_of-run r.sample (r.end - 0) (samples_after r.end later) (omega arith)
    ∙ events_after-runs r.sample r.end later rising.1

pub events_of-levels : (runs : List Run) → EndAfter 0 runs
    → events_of (levels_in runs) ≡ events_of (samples_of runs)
events_of-levels [] rising = refl
events_of-levels (r ∷ later) rising = sym (events_of-runs r later rising)
