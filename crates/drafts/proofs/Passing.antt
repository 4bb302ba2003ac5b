-- The numbers of a range that pass a test, one after another.
use Rattle.std.proofs.Common.{◌≡◌, ◌<◌, ◌-◌, ◌+◌, ◌++◌, ℕ, List, [], ◌∷◌, Bool, true, false, suc}
use Rattle.std.proofs.Common.{filter, arith, ap, append_assoc}
use Rattle.std.specs.List.{range_with_len}

-- a range begins with its first number
pub range_begins : (i n : ℕ) → i < n
    → range_with_len i (n - i) ≡ i ∷ range_with_len (i + 1) (n - (i + 1))
range_begins i n below =
    let one_more : n - i ≡ suc (n - (i + 1)) = omega arith in
    ap (range_with_len i) one_more

-- the first number passes, and is added to what passed
pub passed : (p : ℕ → Bool) (i n : ℕ) (done more all : List ℕ) → i < n → p i ≡ true
    → more ≡ done ++ i ∷ [] → done ++ filter p (range_with_len i (n - i)) ≡ all
    → more ++ filter p (range_with_len (i + 1) (n - (i + 1))) ≡ all
passed p i n done more all below passes longer so_far =
    rw (longer, append_assoc)
    (rw (range_begins i n below, passes) at so_far)

-- it doesn't
pub failed : (p : ℕ → Bool) (i n : ℕ) (done all : List ℕ) → i < n → p i ≡ false
    → done ++ filter p (range_with_len i (n - i)) ≡ all
    → done ++ filter p (range_with_len (i + 1) (n - (i + 1))) ≡ all
failed p i n done all below fails so_far = rw (range_begins i n below, fails) at so_far
