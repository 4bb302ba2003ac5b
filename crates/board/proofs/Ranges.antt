-- Ranges of two integers.
use Rattle.std.proofs.Common.{◌≡◌, ◌<◌, ◌≤◌, List, [], ◌∷◌, length, None, refl, arith}
use Rattle.toml.specs.declared.value.Value.{Value}
use Rattle.toml.specs.View.{items_view}
use Rattle.board.specs.declared.entry.Range.{Range}
use Rattle.board.specs.Entries.{range_in}

pub range_in-short : (full : Range) (vs : List Value) → length vs < 2
    → range_in full (items_view vs) ≡ None
range_in-short full [] h = refl
range_in-short full (v ∷ []) h = refl
range_in-short full (v ∷ w ∷ vs) h = absurd (omega arith)

pub range_in-long : (full : Range) (vs : List Value) → 3 ≤ length vs
    → range_in full (items_view vs) ≡ None
range_in-long full [] h = refl
range_in-long full (v ∷ []) h = refl
range_in-long full (v ∷ w ∷ []) h = absurd (omega arith)
range_in-long full (v ∷ w ∷ x ∷ vs) h = refl
