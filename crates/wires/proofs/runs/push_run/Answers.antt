use Rattle.std.proofs.Common.{arith, refl, sym, ap, ◌∙◌, ◌≡◌, ◌≢◌, ◌≤◌, ◌+◌, ◌-◌, suc, [], ◌∷◌}
use Rattle.std.proofs.Common.{◌++◌}
use Rattle.std.proofs.Common.{length, get_or, List, vec_len}
use Rattle.wires.specs.Runs.{most_samples, samples_of}
use Rattle.wires.specs.declared.runs.Run.{Run}
use Rattle.wires.proofs.SameSamples.{same_sample, other_sample}
use Rattle.wires.proofs.RunEnds.{samples_of-push, are_runs-push, samples_of-joined, are_runs-joined}
use Rattle.wires.proofs.RunEnds.{ends_with_other, last_end, set-last}
use Rattle.wires.proofs.runs.push_run.Goals as goal

pub overflow_add-end : goal.overflow_add-end
overflow_add-end c =
    let runs : List Run = c.args.runs.now.items in
    let len : length runs ≡ suc (vec_len c.args.runs.now - 1) =
    omega (arith, c.in-Some.ensures.variant.0 refl) in
    let end = last_end runs _ c.in-Some.last.now c.requires.runs.rising len
    (sym c.in-Some.ensures.value) in
    omega (arith, c.requires.few)

pub returns-then-eq-clause-runs : goal.returns-then-eq-clause-runs
returns-then-eq-clause-runs c =
    let runs : List Run = c.args.runs.now.items in
    let len : length runs ≡ suc (vec_len c.args.runs.now - 1) =
    omega (arith, c.in-Some.ensures.variant.0 refl) in
    are_runs-joined runs _ c.in-Some.last.now c.args.count c.requires.runs len
    (sym c.in-Some.ensures.value) c.requires.few

pub returns-then-eq-clause-ok : goal.returns-then-eq-clause-ok
returns-then-eq-clause-ok c =
    let runs : List Run = c.args.runs.now.items in
    let len : length runs ≡ suc (vec_len c.args.runs.now - 1) =
    omega (arith, c.in-Some.ensures.variant.0 refl) in
    let same : c.in-Some.last.now.sample ≡ c.args.sample =
    same_sample _ _ (sym c.if-eq.ensures) in
    rw (← same) (samples_of-joined runs _ c.in-Some.last.now c.args.count
    c.requires.runs.rising len (sym c.in-Some.ensures.value))

pub returns-in_ok-push-2-clause-ok : goal.returns-in_ok-push-2-clause-ok
returns-in_ok-push-2-clause-ok c =
    let runs : List Run = c.args.runs.now.items in
    let last : Run = c.in-Some.last.now in
    let len : length runs ≡ suc (vec_len c.args.runs.now - 1) =
    omega (arith, c.in-Some.ensures.variant.0 refl) in
    let same : get_or runs (vec_len c.args.runs.now - 1) last ≡ last =
    sym c.in-Some.ensures.value in
    let end = last_end runs _ last c.requires.runs.rising len same in
    let r : Run = record { sample = c.args.sample; end = last.end + c.args.count } in
    ap samples_of (c.in_ok-push-2.ensures.items ∙ ap (λ l. l ++ r ∷ []) (set-last runs _ last same))
    ∙ samples_of-push runs r c.args.count c.requires.runs.rising (ap (λ n. n + c.args.count) end)

pub returns-in_ok-push-2-clause-runs : goal.returns-in_ok-push-2-clause-runs
returns-in_ok-push-2-clause-runs c =
    let runs : List Run = c.args.runs.now.items in
    let last : Run = c.in-Some.last.now in
    let len : length runs ≡ suc (vec_len c.args.runs.now - 1) =
    omega (arith, c.in-Some.ensures.variant.0 refl) in
    let same : get_or runs (vec_len c.args.runs.now - 1) last ≡ last =
    sym c.in-Some.ensures.value in
    let end = last_end runs _ last c.requires.runs.rising len same in
    let r : Run = record { sample = c.args.sample; end = last.end + c.args.count } in
    let few : r.end ≤ most_samples = omega (arith, end, c.requires.few) in
    let other : (get_or runs (vec_len c.args.runs.now - 1) last).sample ≢ c.args.sample =
    rw same (other_sample _ _ (sym c.if-eq.ensures)) in
    rw (c.in_ok-push-2.ensures.items, set-last runs _ last same)
    (are_runs-push runs r c.args.count c.requires.runs (omega arith)
    (ap (λ n. n + c.args.count) end) few (ends_with_other runs _ last c.args.sample len other))
