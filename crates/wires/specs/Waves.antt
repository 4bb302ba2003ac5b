-- A waveform: the dump of the steps so far.
use Rattle.std.specs.Prelude.{◌≡◌, ℕ, ◌+◌, List, [], ◌∷◌, ◌++◌, length}
use Rattle.std.specs.List.{flat_map}
use Rattle.wires.specs.declared.lines.Sample.{Sample}
use Rattle.wires.specs.Marks.{Mark, header, marks_text, free_bus}
use Rattle.wires.specs.Viewed.{ticks_after, levels_after, samples_read, places_read}
use Rattle.wires.specs.Viewed.{ChangesAlone, Rises}

-- a step: its place, and the levels in each of its ticks
abbrev pub Step : Type 0
Step = ℕ × List Sample

abbrev pub samples_in : List Step → List Sample
samples_in steps = flat_map (λ (s : Step). s.1) steps

-- the places of steps that follow so many ticks, each with the tick in which it starts
abbrev pub places_from : ℕ → List Step → List (ℕ × ℕ)
places_from now [] = []
places_from now (s ∷ later) = (s.0, now) ∷ places_from (now + length s.1) later

-- the text is a dump of these marks, from which a viewer reads the steps
pub record IsDump (steps : List Step) (marks : List Mark) (text : List ℕ) : Type 0 where
  pub is_text : text ≡ header ++ marks_text marks
  pub samples : samples_read 0 free_bus marks ≡ samples_in steps
  pub places : places_read 0 marks ≡ places_from 0 steps
  pub alone : ChangesAlone free_bus marks
  pub rises : Rises 0 marks
  pub ends : ticks_after 0 marks ≡ length (samples_in steps)

-- a waveform as its text, the ticks so far and the levels in the last of them
pub record Drawn : Type 0 where
  pub text : List ℕ
  pub ticks : ℕ
  pub levels : Sample

-- a waveform of these steps
pub record IsWave (steps : List Step) (wave : Drawn) : Type 0 where
  pub marks : List Mark
  pub dump : IsDump steps marks wave.text
  pub ticks : wave.ticks ≡ ticks_after 0 marks
  pub levels : wave.levels ≡ levels_after free_bus marks
