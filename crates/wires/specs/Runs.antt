-- A list of samples as runs of equal ones, each with the number of samples up to its end.
use Rattle.std.specs.Prelude.{ℕ, ◌-◌, ◌≢◌, ◌<◌, ◌≤◌, List, [], ◌∷◌, ◌++◌, length, map}
use Rattle.std.specs.Prelude.{replicate}
use Rattle.wires.specs.declared.lines.Sample.{Sample}
use Rattle.wires.specs.declared.runs.TheConstants.{MOST_SAMPLES}
use Rattle.wires.specs.declared.runs.Run.{Run}

abbrev pub most_samples : ℕ
most_samples = MOST_SAMPLES

-- the samples of runs that follow so many samples
abbrev pub samples_after : ℕ → List Run → List Sample
samples_after start [] = []
samples_after start (r ∷ later) = replicate (r.end - start) r.sample ++ samples_after r.end later

-- the samples of runs, one after another
abbrev pub samples_of : List Run → List Sample
samples_of runs = samples_after 0 runs

-- the sample of each run, once
abbrev pub levels_in : List Run → List Sample
levels_in runs = map (λ (r : Run). r.sample) runs

-- each run after so many samples has a sample
abbrev pub EndAfter : ℕ → List Run → Type 0
EndAfter start [] = Unit {0}
EndAfter start (r ∷ later) = (start < r.end) × EndAfter r.end later

-- neighbours differ
abbrev pub NeighboursDiffer : List Run → Type 0
NeighboursDiffer [] = Unit {0}
NeighboursDiffer (r ∷ []) = Unit {0}
NeighboursDiffer (r ∷ s ∷ later) = (r.sample ≢ s.sample) × NeighboursDiffer (s ∷ later)

-- what runs keep: none is empty, they are as long as they can be, and they aren't too many
pub record AreRuns (runs : List Run) : Type 0 where
  pub rising : EndAfter 0 runs
  pub differ : NeighboursDiffer runs
  pub few : length (samples_of runs) ≤ most_samples

-- samples that are appended to, and for how many runs more there is room
pub record Appended : Type 0 where
  pub samples : List Sample
  pub room : ℕ
