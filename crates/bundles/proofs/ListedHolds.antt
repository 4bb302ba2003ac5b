-- Holds that are listed are read one after another.
use Rattle.std.proofs.Common.{◌≡◌, ◌<◌, ◌+◌, ℕ, List, Bor, Option, None, Some}
use Rattle.std.proofs.Common.{map, drop, length, option_and_then}
use Rattle.std.proofs.Math.ListN.{get_or}
use Rattle.std.proofs.lemmas.List.{at_drop_more}
use Rattle.bundles.specs.Holds.{hold_of}
use Rattle.bundles.specs.HoldsRead.{holds_from, with_hold}

abbrev pub holds_of : List ℕ → List (Bor (List ℕ)) → Option (List ℕ)
holds_of done parts = holds_from done (map (λ x. x.now) parts)

-- the same holds are read from a part on, and behind it with those that it adds
pub one_more : (done next : List ℕ) (parts : List (Bor (List ℕ))) (i : ℕ) (d : Bor (List ℕ))
    (whole : Option (List ℕ))
    → i < length parts
    → option_and_then (with_hold done) (hold_of (get_or parts i d).now) ≡ Some next
    → holds_of done (drop i parts) ≡ whole
    → holds_of next (drop (i + 1) parts) ≡ whole
unfolding holds_from
one_more done next parts i d whole few added e =
    let seen = at_drop_more (holds_of done) parts i d few in
    let known = rw added at seen in
    let h = rw known at e in h

-- nothing is read where a part adds none
pub none_more : (done : List ℕ) (parts : List (Bor (List ℕ))) (i : ℕ) (d : Bor (List ℕ))
    (whole : Option (List ℕ))
    → i < length parts
    → option_and_then (with_hold done) (hold_of (get_or parts i d).now) ≡ None
    → holds_of done (drop i parts) ≡ whole
    → None ≡ whole
unfolding holds_from
none_more done parts i d whole few missing e =
    let seen = at_drop_more (holds_of done) parts i d few in
    let known = rw missing at seen in
    let h = rw known at e in h
