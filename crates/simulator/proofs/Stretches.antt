-- No target stretches the clock for longer than a plan may say.
use Rattle.std.proofs.Common.{◌≤◌, ℕ, List, [], ◌∷◌, All, arith}
use Rattle.std.specs.List.{AllByRecursion}
use Rattle.std.proofs.lemmas.List.Elements.{recursion_from_All, All-from_recursion}
use Rattle.std.proofs.Math.Nat.{max-le}
use Rattle.board.specs.Boards.{Target, Board, largest_stretch}
use Rattle.board.specs.Valid.{IsTarget, IsBoard}

largest_below : (ts : List Target) → AllByRecursion IsTarget ts → largest_stretch ts ≤ 6999
largest_below [] all = omega arith
largest_below (t ∷ ts) all = max-le all.0.stretch (largest_below ts all.1)

pub stretches : (b : Board) → IsBoard b → largest_stretch b.targets ≤ 6999
stretches b is = largest_below b.targets (recursion_from_All IsTarget b.targets is.targets)

each_below : (longest : ℕ) → longest ≤ 6999 → (holds : List ℕ)
    → AllByRecursion (λ hold. hold ≤ longest) holds → AllByRecursion (λ hold. hold ≤ 6999) holds
each_below longest le [] all = tt
each_below longest le (h ∷ holds) all =
    let first : h ≤ longest = all.0 in
    (omega arith, each_below longest le holds all.1)

pub below : (longest : ℕ) → longest ≤ 6999 → (holds : List ℕ) → All (λ hold. hold ≤ longest) holds
    → All (λ hold. hold ≤ 6999) holds
below longest le holds all =
    All-from_recursion (λ hold. hold ≤ 6999) holds
    (each_below longest le holds (recursion_from_All (λ hold. hold ≤ longest) holds all))
