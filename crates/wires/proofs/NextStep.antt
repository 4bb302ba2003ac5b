-- A waveform with the marks of one more step is a waveform of one more step.
use Rattle.std.proofs.Common.{◌≡◌, ℕ, zero, suc, ◌+◌, ◌<◌, ◌≤◌, List, [], ◌∷◌, ◌++◌, length}
use Rattle.std.proofs.Common.{get_or, sym, ap, subst, ◌∙◌, arith, append_assoc, length-append}
use Rattle.std.proofs.lemmas.List.{append-nil}
use Rattle.std.proofs.lemmas.Grind.{flat_map-append}
use Rattle.wires.specs.declared.lines.Sample.{Sample}
use Rattle.wires.specs.declared.runs.Run.{Run}
use Rattle.wires.specs.Runs.{samples_of, EndAfter}
use Rattle.wires.proofs.RunLists.{end_after, length-samples_of}
use Rattle.wires.specs.Marks.{Mark, mark_text, marks_text, header, free_bus}
use Rattle.wires.specs.Viewed.{ticks_after, levels_after, samples_read, places_read}
use Rattle.wires.specs.Viewed.{Rises}
use Rattle.wires.specs.Drawing.{run_marks, step_marks, levels_behind}
use Rattle.wires.specs.Waves.{Step, samples_in, places_from, IsDump, Drawn, IsWave}
use Rattle.wires.proofs.Viewing.{ticks_after-append, levels_after-append, samples_read-append}
use Rattle.wires.proofs.Viewing.{places_read-append, ChangesAlone-append, Rises-append}
use Rattle.wires.proofs.RunMarks.{ticks_after-runs, levels_after-runs, samples_read-runs}
use Rattle.wires.proofs.RunMarks.{places_read-runs, ChangesAlone-runs, Rises-runs}

start_below : (start : ℕ) (runs : List Run) → EndAfter start runs → start ≤ end_after start runs
start_below start [] rising = omega arith
start_below start (r ∷ later) rising =
    let lt : start < r.end = rising.0 in omega (arith, start_below r.end later rising.1)

-- each run ends where the last one does, or before
ends_below : (start : ℕ) (runs : List Run) (k : ℕ) (d : Run) → EndAfter start runs
    → k < length runs → (get_or runs k d).end ≤ end_after start runs
ends_below start [] k d rising lt = absurd (omega arith)
ends_below start (r ∷ later) zero d rising lt = start_below r.end later rising.1
ends_below start (r ∷ later) (suc k) d rising lt =
    ends_below r.end later k d rising.1 (omega arith)

pub ends_within : (runs : List Run) (k : ℕ) (d : Run) → EndAfter 0 runs → k < length runs
    → (get_or runs k d).end ≤ length (samples_of runs)
ends_within runs k d rising lt =
    omega (arith, ends_below 0 runs k d rising lt, length-samples_of runs rising)

-- one step more

samples_in-push : (steps : List Step) (s : Step)
    → samples_in (steps ++ s ∷ []) ≡ samples_in steps ++ s.1
samples_in-push steps s =
    flat_map-append (λ (s : Step). s.1) steps (s ∷ [])
    ∙ ap (λ l. samples_in steps ++ l) (append-nil s.1)

places_from-push : (now : ℕ) (steps : List Step) (s : Step)
    → places_from now (steps ++ s ∷ [])
    ≡ places_from now steps ++ (s.0, now + length (samples_in steps)) ∷ []
places_from-push now [] s =
    let e : now ≡ now + 0 = omega arith in ap (λ (n : ℕ). (s.0, n) ∷ []) e
places_from-push now (t ∷ later) s =
    let long : length (t.1 ++ samples_in later) ≡ length t.1 + length (samples_in later) =
    length-append t.1 (samples_in later) in
    let e : now + length t.1 + length (samples_in later)
    ≡ now + length (t.1 ++ samples_in later) = omega arith in
    ap (λ l. (t.0, now) ∷ l) (places_from-push (now + length t.1) later s
    ∙ ap (λ (n : ℕ). places_from (now + length t.1) later ++ (s.0, n) ∷ []) e)

-- what a viewer reads from the marks of a step, where it starts

step_ticks : (start : ℕ) (levels : Sample) (place : ℕ) (runs : List Run)
    → ticks_after start (step_marks start levels place runs) ≡ start + end_after 0 runs
step_ticks start levels place runs =
    let e : start ≡ start + 0 = omega arith in
    ap (λ n. ticks_after n (run_marks start levels runs)) e ∙ ticks_after-runs start 0 levels runs

step_samples : (start : ℕ) (levels : Sample) (place : ℕ) (runs : List Run)
    → samples_read start levels (step_marks start levels place runs) ≡ samples_of runs
step_samples start levels place runs =
    let e : start ≡ start + 0 = omega arith in
    ap (λ n. samples_read n levels (run_marks start levels runs)) e
    ∙ samples_read-runs start 0 levels runs

step_places : (start : ℕ) (levels : Sample) (place : ℕ) (runs : List Run)
    → places_read start (step_marks start levels place runs) ≡ (place, start) ∷ []
step_places start levels place runs =
    let e : start ≡ start + 0 = omega arith in
    ap (λ l. (place, start) ∷ l) (ap (λ n. places_read n (run_marks start levels runs)) e
    ∙ places_read-runs start 0 levels runs)

step_rises : (start : ℕ) (levels : Sample) (place : ℕ) (runs : List Run) → EndAfter 0 runs
    → Rises start (step_marks start levels place runs)
step_rises start levels place runs rising =
    let e : start ≡ start + 0 = omega arith in
    let P : ℕ → Type 0 = λ n. Rises n (run_marks start levels runs) in
    subst P (sym e) (Rises-runs start 0 levels runs rising)

-- behind the marks of a waveform

next_dump : (steps : List Step) (wave : Drawn) (place : ℕ) (runs : List Run)
    → (is : IsWave steps wave) → EndAfter 0 runs
    → IsDump (steps ++ (place, samples_of runs) ∷ [])
    (is.marks ++ step_marks wave.ticks wave.levels place runs)
    (wave.text ++ marks_text (step_marks wave.ticks wave.levels place runs))
next_dump steps wave place runs is rising =
    let s : Step = (place, samples_of runs) in
    let more : List Mark = step_marks wave.ticks wave.levels place runs in
    let ticks : ticks_after 0 is.marks ≡ wave.ticks = sym is.ticks in
    let levels : levels_after free_bus is.marks ≡ wave.levels = sym is.levels in
    let long : wave.ticks ≡ 0 + length (samples_in steps) =
    omega (arith, is.ticks, is.dump.ends) in
    let read : samples_read 0 free_bus (is.marks ++ more) ≡ samples_in (steps ++ s ∷ []) =
    samples_read-append 0 free_bus is.marks more
    ∙ rw (is.dump.samples, ticks, levels)
    (ap (λ l. samples_in steps ++ l) (step_samples wave.ticks wave.levels place runs)
    ∙ sym (samples_in-push steps s)) in
    record {
      is_text =
          ap (λ l. l ++ marks_text more) is.dump.is_text
          ∙ append_assoc header (marks_text is.marks) (marks_text more)
          ∙ ap (λ l. header ++ l) (sym (flat_map-append mark_text is.marks more));
      samples = read;
      places =
          places_read-append 0 is.marks more
          ∙ rw (is.dump.places, ticks)
          (ap (λ l. places_from 0 steps ++ l) (step_places wave.ticks wave.levels place runs)
          ∙ ap (λ (n : ℕ). places_from 0 steps ++ (place, n) ∷ []) long
          ∙ sym (places_from-push 0 steps s));
      alone =
          ChangesAlone-append free_bus is.marks more is.dump.alone
          (rw levels (ChangesAlone-runs wave.ticks wave.levels runs));
      rises =
          Rises-append 0 is.marks more is.dump.rises
          (rw ticks (step_rises wave.ticks wave.levels place runs rising));
      ends =
          ticks_after-append 0 is.marks more
          ∙ rw ticks (step_ticks wave.ticks wave.levels place runs ∙ omega (
            arith,
            long,
            length-samples_of runs rising,
            length-append (samples_in steps) (samples_of runs),
            ap length (samples_in-push steps s),
          ));
    }

-- the waveform of one step more
abbrev pub drawn_next : Drawn → ℕ → List Run → Drawn
drawn_next wave place runs = record {
  text = wave.text ++ marks_text (step_marks wave.ticks wave.levels place runs);
  ticks = wave.ticks + length (samples_of runs);
  levels = levels_behind wave.levels runs;
}

pub next_wave : (steps : List Step) (wave : Drawn) (place : ℕ) (runs : List Run)
    → IsWave steps wave → EndAfter 0 runs
    → IsWave (steps ++ (place, samples_of runs) ∷ []) (drawn_next wave place runs)
next_wave steps wave place runs is rising =
    let more : List Mark = step_marks wave.ticks wave.levels place runs in
    let ticks : ticks_after 0 is.marks ≡ wave.ticks = sym is.ticks in
    let levels : levels_after free_bus is.marks ≡ wave.levels = sym is.levels in
    record {
      marks = is.marks ++ more;
      dump = next_dump steps wave place runs is rising;
      ticks =
          ap (λ n. wave.ticks + n) (length-samples_of runs rising)
          ∙ sym (ticks_after-append 0 is.marks more
          ∙ rw ticks (step_ticks wave.ticks wave.levels place runs));
      levels =
          sym (levels_after-append free_bus is.marks more
          ∙ rw levels (levels_after-runs wave.ticks wave.levels runs));
    }

-- the same where each part of the waveform is known by an equation
pub wave_by_parts : (steps : List Step) (old wave : Drawn) (place : ℕ) (runs : List Run)
    → (samples : List Sample) (text : List ℕ) (ticks : ℕ) (levels : Sample)
    → IsWave steps old → wave ≡ old → EndAfter 0 runs → samples_of runs ≡ samples
    → text ≡ wave.text ++ marks_text (step_marks wave.ticks wave.levels place runs)
    → ticks ≡ wave.ticks + length samples → levels ≡ levels_behind wave.levels runs
    → IsWave (steps ++ (place, samples) ∷ [])
    (record { text = text; ticks = ticks; levels = levels })
wave_by_parts steps old wave place runs samples text ticks levels is same rising read t n l =
    let before : IsWave steps wave = rw same is in
    rw (t, n, l, ← read) (next_wave steps wave place runs before rising)
