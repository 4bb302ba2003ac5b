-- One clock more: a run with SCL low, and one sample with it high.
use Rattle.std.proofs.Common.{◌≡◌, ◌≢◌, ◌≤◌, ◌+◌, ◌-◌, ◌++◌, ◌∷◌, [], ℕ, Bool, true, false}
use Rattle.std.proofs.Common.{List, length, replicate, sym, ap, ◌∙◌, arith, append_assoc}
use Rattle.std.proofs.Common.{length-append}
use Rattle.std.proofs.lemmas.List.{length-replicate}
use Rattle.wires.specs.Drawing.{levels_behind}
use Rattle.wires.specs.Marks.{free_bus}
use Rattle.wires.specs.Runs.{samples_of, AreRuns, most_samples}
use Rattle.wires.specs.declared.lines.Sample.{Sample}
use Rattle.wires.specs.declared.runs.Run.{Run}
use Rattle.wires.proofs.LastRun.{behind-push, behind_other}
use Rattle.wires.proofs.RunEnds.{samples_of-push, are_runs-push}

low_is_not_high : (sda alert : Bool)
    → ◌≢◌ {A = Sample} (record { scl = false; sda = sda; alert = alert })
    (record { scl = true; sda = sda; alert = alert })
low_is_not_high sda alert same = let e : false ≡ true = ap (λ (s : Sample). s.scl) same in cc

module _ (old middle : List Run) (end low : ℕ) (sda alert : Bool)
    (ends : end ≡ length (samples_of old)) (few : length (samples_of old) + low + 1 ≤ most_samples)
    (are : AreRuns middle)
    (samples : samples_of middle ≡ samples_of old
    ++ replicate (end + low - length (samples_of old))
    (record { scl = false; sda = sda; alert = alert }))
    (last : (levels : Sample)
    → levels_behind levels middle ≡ record { scl = false; sda = sda; alert = alert }) where
  abbrev pub low_sample : Sample
  low_sample = record { scl = false; sda = sda; alert = alert }

  abbrev pub high_run : Run
  high_run = record {
    sample = record { scl = true; sda = sda; alert = alert };
    end = end + low + 1;
  }

  low_samples : samples_of middle ≡ samples_of old ++ replicate low low_sample
  low_samples =
      let count : end + low - length (samples_of old) ≡ low = omega (arith, ends) in
      samples ∙ ap (λ n. samples_of old ++ replicate n low_sample) count

  high_ends : high_run.end ≡ length (samples_of middle) + 1
  high_ends =
      omega (
        arith,
        ends,
        ap length low_samples,
        length-append (samples_of old) (replicate low low_sample),
        length-replicate low low_sample,
      )

  pub clocked_samples : samples_of (middle ++ high_run ∷ [])
      ≡ samples_of old ++ (replicate low low_sample ++ high_run.sample ∷ [])
  clocked_samples =
      samples_of-push middle high_run 1 are.rising high_ends
      ∙ ap (λ l. l ++ high_run.sample ∷ []) low_samples
      ∙ append_assoc (samples_of old) (replicate low low_sample) (high_run.sample ∷ [])

  pub clocked_runs : AreRuns (middle ++ high_run ∷ [])
  clocked_runs =
      are_runs-push middle high_run 1 are (omega arith) high_ends
      (omega (arith, ends, few))
      (behind_other low_sample middle high_run.sample
      (λ same. low_is_not_high sda alert (sym (last low_sample) ∙ same)))

  pub clocked_end : high_run.end ≡ length (samples_of (middle ++ high_run ∷ []))
  clocked_end =
      omega (
        arith,
        high_ends,
        ap length (samples_of-push middle high_run 1 are.rising high_ends),
        length-append (samples_of middle) (replicate 1 high_run.sample),
      )

  pub clocked_high : true ≡ (levels_behind free_bus (middle ++ high_run ∷ [])).scl
  clocked_high = ap (λ (s : Sample). s.scl) (sym (behind-push free_bus middle high_run))
