-- Runs put behind runs, one after another.
use Rattle.std.proofs.Common.{◌≡◌, ℕ, suc, ◌+◌, ◌-◌, ◌<◌, ◌≤◌, List, [], ◌∷◌, ◌++◌, length, drop}
use Rattle.std.proofs.Common.{get_or, replicate, sym, ap, subst, ◌∙◌, arith, append_assoc}
use Rattle.std.proofs.Common.{length-append}
use Rattle.std.proofs.lemmas.List.{length-replicate, append-nil, drop_all}
use Rattle.std.proofs.Math.Seq.{drop-cons}
use Rattle.wires.specs.declared.lines.Sample.{Sample}
use Rattle.wires.specs.declared.runs.Run.{Run}
use Rattle.wires.specs.Runs.{samples_after, samples_of, EndAfter, AreRuns, most_samples}

-- runs, and later ones that are still to come, have these samples
pub record Joining (whole : List Sample) (runs : List Run) (before : ℕ) (later : List Run)
    : Type 0 where
  pub are : AreRuns runs
  pub rising : EndAfter before later
  pub joined : samples_of runs ++ samples_after before later ≡ whole

pub next_run : (whole : List Sample) (runs : List Run) (before i : ℕ) (later : List Run) (d : Run)
    → i < length later → Joining whole runs before (drop i later)
    → Joining whole runs before (get_or later i d ∷ drop (i + 1) later)
next_run whole runs before i later d within j =
    let one_on : suc i ≡ i + 1 = omega arith in
    let parts : drop i later ≡ get_or later i d ∷ drop (i + 1) later =
    drop-cons later i d within ∙ ap (λ n. get_or later i d ∷ drop n later) one_on in
    subst (λ l. Joining whole runs before l) parts j

module _ (whole : List Sample) (runs : List Run) (before : ℕ) (r : Run) (rest : List Run)
    (j : Joining whole runs before (r ∷ rest)) where
  pub has_samples : before < r.end
  has_samples = j.rising.0

  pub has_room : length whole ≤ most_samples
      → length (samples_of runs) + (r.end - before) ≤ most_samples
  has_room few =
      let run : List Sample = replicate (r.end - before) r.sample in
      let behind : List Sample = samples_after r.end rest in
      let long = ap length j.joined in
      omega (
        arith,
        few,
        long,
        length-append (samples_of runs) (run ++ behind),
        length-append run behind,
        length-replicate (r.end - before) r.sample,
      )

  pub joins : (after : List Run) → AreRuns after
      → samples_of after ≡ samples_of runs ++ replicate (r.end - before) r.sample
      → Joining whole after r.end rest
  joins after are samples =
      let run : List Sample = replicate (r.end - before) r.sample in
      let behind : List Sample = samples_after r.end rest in
      record {
        are = are;
        rising = j.rising.1;
        joined = ap (λ l. l ++ behind) samples
            ∙ append_assoc (samples_of runs) run behind ∙ j.joined;
      }

pub all_joined : (whole : List Sample) (runs : List Run) (before i : ℕ) (later : List Run)
    → length later ≤ i → Joining whole runs before (drop i later) → samples_of runs ≡ whole
all_joined whole runs before i later past j =
    let done : Joining whole runs before [] =
    subst (λ l. Joining whole runs before l) (drop_all i later past) j in
    sym (append-nil (samples_of runs)) ∙ done.joined
