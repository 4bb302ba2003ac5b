use Rattle.std.proofs.Common.{arith, refl, sym, ap, ◌∙◌, ◌≡◌, ◌≢◌, ◌≤◌, ◌+◌, ◌-◌, suc, [], ◌∷◌}
use Rattle.std.proofs.Common.{◌++◌, ℕ}
use Rattle.std.proofs.Common.{length, get_or, set, replicate, List, vec_len}
use Rattle.wires.specs.Runs.{samples_of}
use Rattle.wires.specs.declared.runs.Run.{Run}
use Rattle.wires.proofs.LastRun.{behind-push, behind-set}
use Rattle.wires.proofs.SameSamples.{same_sample, other_sample}
use Rattle.wires.proofs.RunEnds.{samples_of-push, are_runs-push, samples_of-joined, are_runs-joined}
use Rattle.wires.proofs.RunEnds.{ends_with_other, last_end, set-last}
use Rattle.wires.proofs.runs.appending.push_up_to.Goals as goal

pub returns-then-eq-clause-runs : goal.returns-then-eq-clause-runs
returns-then-eq-clause-runs c =
    let runs : List Run = c.args.runs.now.items in
    let last : Run = c.in-Some.last.now in
    let len : length runs ≡ suc (vec_len c.args.runs.now - 1) =
    omega (arith, c.in-Some.ensures.variant.0 refl) in
    let same = sym c.in-Some.ensures.value in
    let end = last_end runs _ last c.requires.runs.rising len same in
    let count : ℕ = c.args.end - length (samples_of runs) in
    let more : last.end + count ≡ c.args.end = omega (arith, end, c.requires.more) in
    let few : length (samples_of runs) + count ≤ _ =
    omega (arith, c.requires.more, c.requires.few) in
    rw (← more) (are_runs-joined runs _ last count c.requires.runs len same few)

pub returns-then-eq-clause-samples : goal.returns-then-eq-clause-samples
returns-then-eq-clause-samples c =
    let runs : List Run = c.args.runs.now.items in
    let last : Run = c.in-Some.last.now in
    let len : length runs ≡ suc (vec_len c.args.runs.now - 1) =
    omega (arith, c.in-Some.ensures.variant.0 refl) in
    let same = sym c.in-Some.ensures.value in
    let end = last_end runs _ last c.requires.runs.rising len same in
    let count : ℕ = c.args.end - length (samples_of runs) in
    let more : last.end + count ≡ c.args.end = omega (arith, end, c.requires.more) in
    let is : last.sample ≡ c.args.sample = same_sample _ _ (sym c.if-eq.ensures) in
    ap (λ n. samples_of (set runs (vec_len c.args.runs.now - 1)
    (record { sample = last.sample; end = n }))) (sym more)
    ∙ samples_of-joined runs _ last count c.requires.runs.rising len same
    ∙ ap (λ s. samples_of runs ++ replicate count s) is

pub returns-then-eq-clause-last : goal.returns-then-eq-clause-last
returns-then-eq-clause-last c = λ levels.
    let runs : List Run = c.args.runs.now.items in
    let len : length runs ≡ suc (vec_len c.args.runs.now - 1) =
    omega (arith, c.in-Some.ensures.variant.0 refl) in
    behind-set levels runs _ _ len ∙ same_sample _ _ (sym c.if-eq.ensures)

pub returns-else-eq-clause-runs : goal.returns-else-eq-clause-runs
returns-else-eq-clause-runs c =
    let runs : List Run = c.args.runs.now.items in
    let last : Run = c.in-Some.last.now in
    let len : length runs ≡ suc (vec_len c.args.runs.now - 1) =
    omega (arith, c.in-Some.ensures.variant.0 refl) in
    let same : get_or runs (vec_len c.args.runs.now - 1) last ≡ last =
    sym c.in-Some.ensures.value in
    let count : ℕ = c.args.end - length (samples_of runs) in
    let r : Run = record { sample = c.args.sample; end = c.args.end } in
    let ends : r.end ≡ length (samples_of runs) + count = omega (arith, c.requires.more) in
    let other : (get_or runs (vec_len c.args.runs.now - 1) last).sample ≢ c.args.sample =
    rw same (other_sample _ _ (sym c.if-eq.ensures)) in
    rw (c.begin_run-else-eq.ensures.items, set-last runs _ last same)
    (are_runs-push runs r count c.requires.runs (omega (arith, c.requires.more)) ends
    c.requires.few (ends_with_other runs _ last c.args.sample len other))

pub returns-else-eq-clause-samples : goal.returns-else-eq-clause-samples
returns-else-eq-clause-samples c =
    let runs : List Run = c.args.runs.now.items in
    let last : Run = c.in-Some.last.now in
    let same : get_or runs (vec_len c.args.runs.now - 1) last ≡ last =
    sym c.in-Some.ensures.value in
    let count : ℕ = c.args.end - length (samples_of runs) in
    let r : Run = record { sample = c.args.sample; end = c.args.end } in
    let ends : r.end ≡ length (samples_of runs) + count = omega (arith, c.requires.more) in
    ap samples_of (c.begin_run-else-eq.ensures.items
    ∙ ap (λ l. l ++ r ∷ []) (set-last runs _ last same))
    ∙ samples_of-push runs r count c.requires.runs.rising ends

pub returns-else-eq-clause-last : goal.returns-else-eq-clause-last
returns-else-eq-clause-last c = λ levels.
    let runs : List Run = c.args.runs.now.items in
    let last : Run = c.in-Some.last.now in
    let r : Run = record { sample = c.args.sample; end = c.args.end } in
    rw c.begin_run-else-eq.ensures.items
    (behind-push levels (set runs (vec_len c.args.runs.now - 1) last) r)
