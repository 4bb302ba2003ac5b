-- The value of `holds=`: `SLOT:K,..`, the slots that are held.
use Rattle.std.specs.Prelude.{ℕ, ◌+◌, max, List, [], ◌∷◌, map, find, Bool, true, ◌&&◌, ◌==◌, nat_lt}
use Rattle.std.specs.Prelude.{Option, Some, None, option_map, option_and_then, unwrap_or}
use Rattle.std.specs.Prelude.{if◌then◌else◌}
use Rattle.std.specs.List.{list_all, slice_split, range_with_len}
use Rattle.texts.specs.Decimal.{decimal_within}
use Rattle.bundles.specs.Fields.{cut_at}
use Rattle.texts.specs.Ascii as ascii
use Rattle.bit_bus.specs.declared.plan.TheConstants.{LONGEST_HOLD}

-- `SLOT:K`
abbrev pub hold_of : List ℕ → Option (ℕ × ℕ)
hold_of part =
    option_and_then (λ (sides : List ℕ × List ℕ). option_and_then (λ slot.
    option_map (λ hold. (slot, hold)) (decimal_within LONGEST_HOLD sides.1))
    (decimal_within 4095 sides.0))
    (cut_at ascii.colon part)

-- the slots and holds that some parts name, if each of them names one
abbrev pub named_by : List (List ℕ) → Option (List (ℕ × ℕ))
named_by [] = Some []
named_by (part ∷ later) =
    option_and_then (λ hold. option_map (λ named. hold ∷ named) (named_by later)) (hold_of part)

-- each slot stands before greater ones only
abbrev pub ascends : List (ℕ × ℕ) → Bool
ascends [] = true
ascends (first ∷ later) = list_all (λ (hold : ℕ × ℕ). nat_lt first.0 hold.0) later && ascends later

-- the hold of a slot, 0 where it isn't named
abbrev pub hold_at : List (ℕ × ℕ) → ℕ → ℕ
hold_at named slot =
    unwrap_or
    (option_map (λ (hold : ℕ × ℕ). hold.1) (find (λ (hold : ℕ × ℕ). hold.0 == slot) named)) 0

-- how many slots there are up to the greatest that is named
abbrev pub slot_count : List (ℕ × ℕ) → ℕ
slot_count [] = 0
slot_count (hold ∷ later) = max (hold.0 + 1) (slot_count later)

-- the holds of all these slots, where they are named in ascending order
abbrev pub holds_named : List (ℕ × ℕ) → Option (List ℕ)
holds_named named =
    if ascends named then Some (map (hold_at named) (range_with_len 0 (slot_count named))) else None

-- the parts between commas; no holds where the word is missing
abbrev pub holds_of : Option (List ℕ) → Option (List ℕ)
holds_of None = Some []
holds_of (Some text) =
    option_and_then holds_named (named_by (slice_split (λ b. b == ascii.comma) text))
