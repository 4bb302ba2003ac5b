-- The levels behind some runs are those of the last one.
use Rattle.std.proofs.Common.{◌≡◌, ◌≢◌, ℕ, zero, suc, ◌-◌, ◌<◌, List, [], ◌∷◌, ◌++◌, length, Some}
use Rattle.std.proofs.Common.{slice_get, get_or, set, refl, sym, ap, ◌∙◌, arith}
use Rattle.std.proofs.lemmas.Option.{slice_get_within, get_or_from_slice_get}
use Rattle.wires.specs.declared.lines.Sample.{Sample}
use Rattle.wires.specs.declared.runs.Run.{Run}
use Rattle.wires.specs.Drawing.{levels_behind}
use Rattle.wires.proofs.RunEnds.{EndsWithOther}

behind : (levels : Sample) (runs : List Run) (n : ℕ) (d : Run) → length runs ≡ suc n
    → (get_or runs n d).sample ≡ levels_behind levels runs
behind levels [] n d e = absurd (omega arith)
behind levels (r ∷ []) zero d e = refl
behind levels (r ∷ []) (suc n) d e = absurd (omega arith)
behind levels (r ∷ s ∷ later) zero d e = absurd (omega arith)
behind levels (r ∷ s ∷ later) (suc n) d e = behind r.sample (s ∷ later) n d (omega arith)

pub behind_last : (levels : Sample) (runs : List Run) (last : Run)
    → Some last ≡ slice_get runs (length runs - 1) → last.sample ≡ levels_behind levels runs
behind_last levels runs last e =
    let within : length runs - 1 < length runs =
    slice_get_within runs (length runs - 1) last (sym e) in
    let same : get_or runs (length runs - 1) last ≡ last =
    get_or_from_slice_get runs (length runs - 1) last last (sym e) in
    ap (λ (r : Run). r.sample) (sym same)
    ∙ behind levels runs (length runs - 1) last (omega arith)

pub behind-push : (levels : Sample) (runs : List Run) (r : Run)
    → levels_behind levels (runs ++ r ∷ []) ≡ r.sample
behind-push levels [] r = refl
behind-push levels (s ∷ later) r = behind-push s.sample later r

pub behind-set : (levels : Sample) (runs : List Run) (n : ℕ) (r : Run) → length runs ≡ suc n
    → levels_behind levels (set runs n r) ≡ r.sample
behind-set levels [] n r e = absurd (omega arith)
behind-set levels (s ∷ []) zero r e = refl
behind-set levels (s ∷ []) (suc n) r e = absurd (omega arith)
behind-set levels (s ∷ t ∷ later) zero r e = absurd (omega arith)
behind-set levels (s ∷ t ∷ later) (suc n) r e =
    behind-set s.sample (t ∷ later) n r (omega arith)

-- so the last run has no other sample
pub behind_other : (levels : Sample) (runs : List Run) (s : Sample)
    → levels_behind levels runs ≢ s → EndsWithOther runs s
behind_other levels [] s other = tt
behind_other levels (r ∷ []) s other = other
behind_other levels (r ∷ t ∷ later) s other = behind_other r.sample (t ∷ later) s other
