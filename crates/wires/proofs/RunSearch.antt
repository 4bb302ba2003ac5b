-- The run in which a sample lies, by the ends of the runs.
use Rattle.std.proofs.Common.{◌≡◌, ℕ, zero, suc, ◌+◌, ◌-◌, ◌<◌, ◌≤◌, List, [], ◌∷◌, ◌++◌, length}
use Rattle.std.proofs.Common.{Some, slice_get, get_or, option_map, replicate, refl, ap, ◌∙◌, arith}
use Rattle.std.proofs.Common.{leb, leb-true, leb-false, true, false}
use Rattle.std.specs.List.Sorted.{IsNonDecreasingBy, IsPartitionPoint}
use Rattle.wires.specs.declared.lines.Sample.{Sample}
use Rattle.wires.specs.declared.runs.Run.{Run}
use Rattle.wires.specs.Runs.{samples_after, samples_of, EndAfter}

end_from : (start : ℕ) (runs : List Run) (j : ℕ) (d : Run) → EndAfter start runs → j < length runs
    → start < (get_or runs j d).end
end_from start [] j d rising within = absurd (omega arith)
end_from start (r ∷ later) zero d rising within = rising.0
end_from start (r ∷ later) (suc j) d rising within =
    let first : start < r.end = rising.0 in
    let h = end_from r.end later j d rising.1 (omega arith) in omega arith

pub ends_rise : (start : ℕ) (runs : List Run) → EndAfter start runs
    → IsNonDecreasingBy (λ (r : Run). r.end) runs
ends_rise start [] rising i j d le within = absurd (omega arith)
ends_rise start (r ∷ later) rising zero zero d le within = omega arith
ends_rise start (r ∷ later) rising zero (suc j) d le within =
    let h = end_from r.end later j d rising.1 (omega arith) in omega arith
ends_rise start (r ∷ later) rising (suc i) zero d le within = absurd (omega arith)
ends_rise start (r ∷ later) rising (suc i) (suc j) d le within =
    ends_rise r.end later rising.1 i j d (omega arith) (omega arith)

in_run : (count i : ℕ) (s : Sample) (later : List Sample) → i < count
    → slice_get (replicate count s ++ later) i ≡ Some s
in_run zero i s later within = absurd (omega arith)
in_run (suc count) zero s later within = refl
in_run (suc count) (suc i) s later within = in_run count i s later (omega arith)

past_run : (count n i : ℕ) (s : Sample) (later : List Sample) → n ≡ count + i
    → slice_get (replicate count s ++ later) n ≡ slice_get later i
past_run zero n i s later e = ap (λ k. slice_get later k) (omega (arith, e))
past_run (suc count) zero i s later e = absurd (omega (arith, e))
past_run (suc count) (suc n) i s later e = past_run count n i s later (omega (arith, e))

-- the runs before this place end up to a sample, and the others behind it
pub sample_in_run : (start : ℕ) (runs : List Run) (place i : ℕ) → EndAfter start runs → start ≤ i
    → ((k : ℕ) (d : Run) → k < place → (get_or runs k d).end ≤ i)
    → ((k : ℕ) (d : Run) → place ≤ k → k < length runs → i < (get_or runs k d).end)
    → slice_get (samples_after start runs) (i - start)
    ≡ option_map (λ (r : Run). r.sample) (slice_get runs place)
sample_in_run start [] place i rising from before behind = refl
sample_in_run start (r ∷ later) zero i rising from before behind =
    let lt : i < r.end = behind 0 r (omega arith) (omega arith) in
    in_run (r.end - start) (i - start) r.sample (samples_after r.end later) (omega arith)
sample_in_run start (r ∷ later) (suc place) i rising from before behind =
    let first : start < r.end = rising.0 in
    let le : r.end ≤ i = before 0 r (omega arith) in
    past_run (r.end - start) (i - start) (i - r.end) r.sample (samples_after r.end later)
    (omega arith)
    ∙ sample_in_run r.end later place i rising.1 le
    (λ k d lt. before (suc k) d (omega arith))
    (λ k d ge lt. behind (suc k) d (omega arith) (omega arith))

pub sample_at_point : (runs : List Run) (place i : ℕ) → EndAfter 0 runs
    → IsPartitionPoint (λ (r : Run). leb r.end i ≡ true)
    (λ (r : Run). leb r.end i ≡ false) runs place
    → slice_get (samples_of runs) i ≡ option_map (λ (r : Run). r.sample) (slice_get runs place)
sample_at_point runs place i rising point =
    ap (λ n. slice_get (samples_of runs) n) (omega arith)
    ∙ sample_in_run 0 runs place i rising (omega arith)
    (λ k d lt. leb-true _ _ (point.0 k d (omega arith) lt))
    (λ k d ge lt. leb-false _ _ (point.1 k d ge lt))
