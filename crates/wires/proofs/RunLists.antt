-- Runs as the list of their samples: how long it is, and what a run at the end adds.
use Rattle.std.proofs.Common.{◌≡◌, ℕ, zero, suc, ◌+◌, ◌-◌, ◌<◌, List, [], ◌∷◌, ◌++◌, length}
use Rattle.std.proofs.Common.{Some, slice_get, get_or, replicate, refl, sym, ap, ◌∙◌, arith}
use Rattle.std.proofs.Common.{append_assoc, length-append}
use Rattle.std.proofs.lemmas.Option.{slice_get_within, get_or_from_slice_get}
use Rattle.std.proofs.lemmas.List.{length-replicate, append-nil}
use Rattle.wires.specs.declared.runs.Run.{Run}
use Rattle.wires.specs.Runs.{samples_after, samples_of, EndAfter}

-- where runs end that follow so many samples
abbrev pub end_after : ℕ → List Run → ℕ
end_after start [] = start
end_after start (r ∷ later) = end_after r.end later

pub length-samples_after : (start : ℕ) (runs : List Run) → EndAfter start runs
    → length (samples_after start runs) + start ≡ end_after start runs
length-samples_after start [] rising = omega arith
length-samples_after start (r ∷ later) rising =
    let lt : start < r.end = rising.0 in
    omega (
      arith,
      length-append (replicate (r.end - start) r.sample) (samples_after r.end later),
      length-replicate (r.end - start) r.sample,
      length-samples_after r.end later rising.1,
    )

pub length-samples_of : (runs : List Run) → EndAfter 0 runs
    → length (samples_of runs) ≡ end_after 0 runs
length-samples_of runs rising = omega (arith, length-samples_after 0 runs rising)

pub end_after-last : (start : ℕ) (runs : List Run) (n : ℕ) (d : Run) → length runs ≡ suc n
    → end_after start runs ≡ (get_or runs n d).end
end_after-last start [] n d e = absurd (omega arith)
end_after-last start (r ∷ []) zero d e = refl
end_after-last start (r ∷ []) (suc n) d e = absurd (omega arith)
end_after-last start (r ∷ s ∷ later) zero d e = absurd (omega arith)
end_after-last start (r ∷ s ∷ later) (suc n) d e =
    end_after-last r.end (s ∷ later) n d (omega arith)

pub samples_after-push : (start : ℕ) (runs : List Run) (r : Run)
    → samples_after start (runs ++ r ∷ [])
    ≡ samples_after start runs ++ replicate (r.end - end_after start runs) r.sample
samples_after-push start [] r = append-nil (replicate (r.end - start) r.sample)
samples_after-push start (s ∷ later) r =
    ap (λ l. replicate (s.end - start) s.sample ++ l) (samples_after-push s.end later r)
    ∙ sym (append_assoc (replicate (s.end - start) s.sample) (samples_after s.end later)
    (replicate (r.end - end_after s.end later) r.sample))

pub last_ends : (runs : List Run) (last : Run) → EndAfter 0 runs
    → Some last ≡ slice_get runs (length runs - 1) → last.end ≡ length (samples_of runs)
last_ends runs last rising e =
    let within : length runs - 1 < length runs =
    slice_get_within runs (length runs - 1) last (sym e) in
    let same : get_or runs (length runs - 1) last ≡ last =
    get_or_from_slice_get runs (length runs - 1) last last (sym e) in
    ap (λ (r : Run). r.end) (sym same)
    ∙ sym (end_after-last 0 runs (length runs - 1) last (omega arith))
    ∙ sym (length-samples_of runs rising)
