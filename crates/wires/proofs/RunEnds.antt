-- What runs keep where the last one gets longer, or one more comes.
use Rattle.std.proofs.Common.{◌≡◌, ◌≢◌, ℕ, zero, suc, ◌+◌, ◌-◌, ◌<◌, ◌≤◌, List, [], ◌∷◌, ◌++◌}
use Rattle.std.proofs.Common.{length}
use Rattle.std.proofs.Common.{take, set, get_or, replicate, sym, ap, ◌∙◌, arith, append_assoc}
use Rattle.std.proofs.Common.{length-append}
use Rattle.std.proofs.lemmas.List.{take_all, take_more, length-take-le, set_at, length-replicate}
use Rattle.std.proofs.lemmas.List.{replicate-append-replicate, set-get_or}
use Rattle.wires.specs.declared.lines.Sample.{Sample}
use Rattle.wires.specs.declared.runs.Run.{Run}
use Rattle.wires.specs.Runs.{samples_of, EndAfter, NeighboursDiffer, AreRuns, most_samples}
use Rattle.wires.proofs.RunLists.{end_after, samples_after-push, length-samples_of, end_after-last}

-- a run with so many more samples
abbrev pub longer : Run → ℕ → Run
longer r count = record { sample = r.sample; end = r.end + count }

-- the last run, if there is one, has another sample
abbrev pub EndsWithOther : List Run → Sample → Type 0
EndsWithOther [] s = Unit {0}
EndsWithOther (r ∷ []) s = r.sample ≢ s
EndsWithOther (r ∷ t ∷ later) s = EndsWithOther (t ∷ later) s

pub ends_with_other : (runs : List Run) (n : ℕ) (d : Run) (s : Sample) → length runs ≡ suc n
    → (get_or runs n d).sample ≢ s → EndsWithOther runs s
ends_with_other [] n d s e other = tt
ends_with_other (r ∷ []) zero d s e other = other
ends_with_other (r ∷ []) (suc n) d s e other = absurd (omega arith)
ends_with_other (r ∷ t ∷ later) zero d s e other = absurd (omega arith)
ends_with_other (r ∷ t ∷ later) (suc n) d s e other =
    ends_with_other (t ∷ later) n d s (omega arith) other

differ-push : (runs : List Run) (r : Run) → NeighboursDiffer runs → EndsWithOther runs r.sample
    → NeighboursDiffer (runs ++ r ∷ [])
differ-push [] r differ other = tt
differ-push (s ∷ []) r differ other = (other, tt)
differ-push (s ∷ t ∷ later) r differ other = (differ.0, differ-push (t ∷ later) r differ.1 other)

differ_before : (runs : List Run) (r : Run) → NeighboursDiffer (runs ++ r ∷ [])
    → NeighboursDiffer runs × EndsWithOther runs r.sample
differ_before [] r differ = (tt, tt)
differ_before (s ∷ []) r differ = (tt, differ.0)
differ_before (s ∷ t ∷ later) r differ =
    let h = differ_before (t ∷ later) r differ.1 in ((differ.0, h.0), h.1)

rising-push : (start : ℕ) (runs : List Run) (r : Run) → EndAfter start runs
    → end_after start runs < r.end → EndAfter start (runs ++ r ∷ [])
rising-push start [] r rising lt = (lt, tt)
rising-push start (s ∷ later) r rising lt = (rising.0, rising-push s.end later r rising.1 lt)

rising_before : (start : ℕ) (runs : List Run) (r : Run) → EndAfter start (runs ++ r ∷ [])
    → EndAfter start runs × (end_after start runs < r.end)
rising_before start [] r rising = (tt, rising.0)
rising_before start (s ∷ later) r rising =
    let h = rising_before s.end later r rising.1 in ((rising.0, h.0), h.1)

-- one more run, which brings so many samples

pub samples_of-push : (runs : List Run) (r : Run) (count : ℕ) → EndAfter 0 runs
    → r.end ≡ length (samples_of runs) + count
    → samples_of (runs ++ r ∷ []) ≡ samples_of runs ++ replicate count r.sample
samples_of-push runs r count rising ends =
    let more : r.end - end_after 0 runs ≡ count = omega (arith, length-samples_of runs rising) in
    samples_after-push 0 runs r ∙ ap (λ n. samples_of runs ++ replicate n r.sample) more

length-more : (samples : List Sample) (count : ℕ) (s : Sample)
    → length (samples ++ replicate count s) ≡ length samples + count
length-more samples count s =
    omega (arith, length-append samples (replicate count s), length-replicate count s)

pub are_runs-push : (runs : List Run) (r : Run) (count : ℕ) → AreRuns runs → 0 < count
    → r.end ≡ length (samples_of runs) + count → r.end ≤ most_samples
    → EndsWithOther runs r.sample → AreRuns (runs ++ r ∷ [])
are_runs-push runs r count are some ends few other =
    let long : length (samples_of (runs ++ r ∷ [])) ≡ length (samples_of runs) + count =
    ap length (samples_of-push runs r count are.rising ends)
    ∙ length-more (samples_of runs) count r.sample in
    record {
      rising = rising-push 0 runs r are.rising (omega (arith, length-samples_of runs are.rising));
      differ = differ-push runs r are.differ other;
      few = omega (arith, long, few);
    }

-- the last run, made longer

-- the runs before the last
record HasFront (runs : List Run) (n : ℕ) (last : Run) : Type 0 where
  pub front : List Run
  pub is : runs ≡ front ++ last ∷ []
  pub with_last : (r : Run) → set runs n r ≡ front ++ r ∷ []

front_of : (runs : List Run) (n : ℕ) (last : Run) → length runs ≡ suc n → get_or runs n last ≡ last
    → HasFront runs n last
front_of runs n last e same =
    let front : List Run = take n runs in
    let is : runs ≡ front ++ last ∷ [] =
    sym (take_all (n + 1) runs (omega arith)) ∙ take_more runs n last (omega arith)
    ∙ ap (λ (r : Run). front ++ r ∷ []) same in
    let before : length (take n runs) ≡ n = length-take-le n runs (omega arith) in
    record {
      front = front;
      is = is;
      with_last = λ r. ap (λ (l : List Run). set l n r) is ∙ set_at front last [] r n before;
    }

samples_of-lengthened : (front : List Run) (last : Run) (count : ℕ)
    → EndAfter 0 (front ++ last ∷ [])
    → samples_of (front ++ longer last count ∷ [])
    ≡ samples_of (front ++ last ∷ []) ++ replicate count last.sample
samples_of-lengthened front last count rising =
    let lt : end_after 0 front < last.end = (rising_before 0 front last rising).1 in
    let more : last.end + count - end_after 0 front ≡ last.end - end_after 0 front + count =
    omega arith in
    samples_after-push 0 front (longer last count)
    ∙ ap (λ n. samples_of front ++ replicate n last.sample) more
    ∙ ap (λ l. samples_of front ++ l)
    (sym (replicate-append-replicate (last.end - end_after 0 front) count last.sample))
    ∙ sym (append_assoc (samples_of front) (replicate (last.end - end_after 0 front) last.sample)
    (replicate count last.sample))
    ∙ ap (λ l. l ++ replicate count last.sample) (sym (samples_after-push 0 front last))

pub last_end : (runs : List Run) (n : ℕ) (last : Run) → EndAfter 0 runs → length runs ≡ suc n
    → get_or runs n last ≡ last → last.end ≡ length (samples_of runs)
last_end runs n last rising e same =
    ap (λ (r : Run). r.end) (sym same) ∙ sym (end_after-last 0 runs n last e)
    ∙ sym (length-samples_of runs rising)

pub samples_of-joined : (runs : List Run) (n : ℕ) (last : Run) (count : ℕ) → EndAfter 0 runs
    → length runs ≡ suc n → get_or runs n last ≡ last
    → samples_of (set runs n (longer last count)) ≡ samples_of runs ++ replicate count last.sample
samples_of-joined runs n last count rising e same =
    let h = front_of runs n last e same in
    let before : EndAfter 0 (h.front ++ last ∷ []) = rw (← h.is) rising in
    ap samples_of (h.with_last (longer last count))
    ∙ samples_of-lengthened h.front last count before
    ∙ ap (λ l. samples_of l ++ replicate count last.sample) (sym h.is)

pub are_runs-joined : (runs : List Run) (n : ℕ) (last : Run) (count : ℕ) → AreRuns runs
    → length runs ≡ suc n → get_or runs n last ≡ last
    → length (samples_of runs) + count ≤ most_samples → AreRuns (set runs n (longer last count))
are_runs-joined runs n last count are e same few =
    let h = front_of runs n last e same in
    let long : length (samples_of (set runs n (longer last count)))
    ≡ length (samples_of runs) + count =
    ap length (samples_of-joined runs n last count are.rising e same)
    ∙ length-more (samples_of runs) count last.sample in
    let rising : EndAfter 0 (h.front ++ last ∷ []) = rw (← h.is) are.rising in
    let differ : NeighboursDiffer (h.front ++ last ∷ []) = rw (← h.is) are.differ in
    let r = rising_before 0 h.front last rising in
    let d = differ_before h.front last differ in
    let lt : end_after 0 h.front < last.end = r.1 in
    record {
      rising = rw (h.with_last (longer last count))
          (rising-push 0 h.front (longer last count) r.0 (omega arith));
      differ = rw (h.with_last (longer last count))
          (differ-push h.front (longer last count) d.0 d.1);
      few = omega (arith, long, few);
    }

-- the last run, written as it was
pub set-last : (runs : List Run) (n : ℕ) (last : Run) → get_or runs n last ≡ last
    → set runs n last ≡ runs
set-last runs n last same = ap (λ r. set runs n r) (sym same) ∙ set-get_or runs n last
