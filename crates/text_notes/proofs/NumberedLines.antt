-- A line among all lines of a text, where those above it are counted.
use Rattle.std.proofs.Common.{◌≡◌, ◌∷◌, ◌+◌, ◌∙◌, refl, ℕ, zero, suc, List, [], Some, ap, drop}
use Rattle.std.proofs.Common.{arith, slice_get, sym}
use Rattle.std.proofs.lemmas.Bool.Decides.{nat_tests}
use Rattle.std.proofs.lemmas.List.{drop-drop}
use Rattle.notes.specs.Lines.{line_at}

get_dropped : {A : Type 0} (xs : List A) (n : ℕ) → slice_get (drop n xs) 0 ≡ slice_get xs n
get_dropped xs zero = refl
get_dropped [] (suc n) = refl
get_dropped (x ∷ xs) (suc n) = get_dropped xs n

pub record StandsAt {A : Type 0} (xs : List A) (n : ℕ) (x : A) (below : List A) : Type 0 where
  pub there : slice_get xs n ≡ Some x
  pub left : drop (n + 1) xs ≡ below

-- the next of those that are left
pub stands_at : {A : Type 0} (xs : List A) (n : ℕ) (x : A) (below : List A)
    → drop n xs ≡ x ∷ below → StandsAt xs n x below
stands_at xs n x below is = record {
  there = sym (get_dropped xs n) ∙ ap (λ ys. slice_get ys 0) is;
  left = sym (drop-drop 1 n xs) ∙ ap (λ ys. drop 1 ys) is;
}

-- the line below so many has the next number
pub numbered_at : (lines : List (List ℕ)) (above : ℕ)
    → line_at (above + 1) lines ≡ slice_get lines above
numbered_at lines above = Prim.grind (arith, nat_tests)
