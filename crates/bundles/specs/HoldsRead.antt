-- How the holds are read, part by part. Private functions work with it; `Holds` says what they
-- give.
use Rattle.std.specs.Prelude.{ℕ, List, [], ◌∷◌, ◌++◌, ◌-◌, length, replicate, nat_le, Option, Some}
use Rattle.std.specs.Prelude.{None, option_and_then, if◌then◌else◌}
use Rattle.bundles.specs.Holds.{hold_of}

-- a slot that stands behind those that are read, where the others between are 0
abbrev pub with_hold : List ℕ → ℕ × ℕ → Option (List ℕ)
with_hold done hold =
    if nat_le (length done) hold.0
    then Some (done ++ replicate (hold.0 - length done) 0 ++ hold.1 ∷ []) else None

-- the holds of all slots up to the last, after those that are read already
unfoldable pub holds_from : List ℕ → List (List ℕ) → Option (List ℕ)
holds_from done [] = Some done
holds_from done (part ∷ later) =
    option_and_then (λ holds. holds_from holds later)
    (option_and_then (with_hold done) (hold_of part))
