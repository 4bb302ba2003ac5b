-- Numbers and ranges that are read lie where they have to.
use Rattle.std.proofs.Common.{◌≡◌, ℕ, ℤ, pos, negsuc, ◌≤◌, ◌&&◌, leb, Option, Some, None}
use Rattle.std.proofs.Common.{option_map, option_and_then, refl, subst, arith}
use Rattle.std.proofs.lemmas.Bool.{and_parts, leb-true}
use Rattle.std.specs.Option.{option_map_or}
use Rattle.toml.specs.Data.{Data, Items, no_items, item, Members, as_integer, as_array}
use Rattle.board.specs.declared.entry.Range.{Range}
use Rattle.board.specs.declared.key.Key.{Key}
use Rattle.board.specs.Fields.{value_at, number_within, number_in, number_at}
use Rattle.board.specs.Entries.{range_in, range_at}
use Rattle.board.specs.Valid.{IsWithin}
use Rattle.board.proofs.Steps.{chosen_some}

pub within_bounds : (low high : ℕ) (z : ℤ) (n : ℕ) → number_within low high z ≡ Some n
    → (low ≤ n) × (n ≤ high)
within_bounds low high (pos k) n e =
    let c = chosen_some (leb low k && leb k high) k n e in
    let (a, b) = and_parts (leb low k) (leb k high) c.0 in
    (omega (arith, leb-true low k a, c.1), omega (arith, leb-true k high b, c.1))
within_bounds low high (negsuc k) n e = absurd cc

pub in_bounds : (low high : ℕ) (d : Data) (n : ℕ) → number_in low high d ≡ Some n
    → (low ≤ n) × (n ≤ high)
in_bounds low high d n e = by (as_integer d) e
  where
    by : (o : Option ℤ) → option_and_then (number_within low high) o ≡ Some n
        → (low ≤ n) × (n ≤ high)
    by None e = absurd cc
    by (Some z) e = within_bounds low high z n e

pub at_bounds : (low high : ℕ) (k : Key) (ms : Members) (n : ℕ)
    → number_at low high k ms ≡ Some n → (low ≤ n) × (n ≤ high)
at_bounds low high k ms n e = by (value_at k ms) e
  where
    by : (o : Option Data) → option_and_then (number_in low high) o ≡ Some n
        → (low ≤ n) × (n ≤ high)
    by None e = absurd cc
    by (Some d) e = in_bounds low high d n e

abbrev range : ℕ → ℕ → Range
range l h = record { low = l; high = h }

two_within : (full : Range) (low high : Data) (r : Range)
    → range_in full (item low (item high no_items)) ≡ Some r → IsWithin full r
two_within full low high r e = first (number_in full.low full.high low) refl e
  where
    second : (l : ℕ) → full.low ≤ l → (o : Option ℕ) → number_in l full.high high ≡ o
        → option_map (range l) o ≡ Some r → IsWithin full r
    second l a None s e = absurd cc
    second l a (Some h) s e =
        let b = in_bounds l full.high high h s in
        let made : range l h ≡ r = cc in
        subst (IsWithin full) made (record { above = a; nonempty = b.0; below = b.1 })

    first : (o : Option ℕ) → number_in full.low full.high low ≡ o
        → option_and_then (λ l. option_map (range l) (number_in l full.high high)) o ≡ Some r
        → IsWithin full r
    first None f e = absurd cc
    first (Some l) f e =
        second l (in_bounds full.low full.high low l f).0 (number_in l full.high high) refl e

pub range_within : (full : Range) (ds : Items) (r : Range) → range_in full ds ≡ Some r
    → IsWithin full r
range_within full no_items r e = absurd cc
range_within full (item d no_items) r e = absurd cc
range_within full (item low (item high no_items)) r e = two_within full low high r e
range_within full (item a (item b (item c ds))) r e = absurd cc

-- a range is the full one where the key is missing
pub range_at_within : (full : Range) (k : Key) (ms : Members) (r : Range)
    → full.low ≤ full.high → range_at full k ms ≡ Some r → IsWithin full r
range_at_within full k ms r h e = by (option_and_then as_array (value_at k ms)) e
  where
    by : (o : Option Items) → option_map_or (range_in full) o (Some full) ≡ Some r → IsWithin full r
    by None e =
        let same : full ≡ r = cc in
        subst (IsWithin full) same
        (record { above = omega arith; nonempty = h; below = omega arith })
    by (Some ds) e = range_within full ds r e
