-- The last byte of a file says whether its last line is ended.
use Rattle.std.proofs.Common.{◌≡◌, ℕ, ◌-◌, suc, Bool, true, List, [], ◌∷◌, length, Option, Some}
use Rattle.std.proofs.Common.{None}
use Rattle.std.proofs.Common.{refl, ap, ◌∙◌, sym, arith}
use Rattle.std.specs.Prelude.{slice_get, ◌==◌}
use Rattle.bundles.specs.Composed.{is_ended}

abbrev pub is_feed_or_none : Option ℕ → Bool
is_feed_or_none None = true
is_feed_or_none (Some b) = b == 10

pub ended_by_last : (file : List ℕ)
    → is_ended file ≡ is_feed_or_none (slice_get file (length file - 1))
ended_by_last [] = refl
ended_by_last (b ∷ []) = refl
ended_by_last (b ∷ c ∷ later) =
    let next : length (b ∷ c ∷ later) - 1 ≡ suc (length (c ∷ later) - 1) = omega arith in
    ended_by_last (c ∷ later)
    ∙ sym (ap (λ (k : ℕ). is_feed_or_none (slice_get (b ∷ c ∷ later) k)) next)
