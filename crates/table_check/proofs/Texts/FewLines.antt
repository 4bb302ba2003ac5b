-- A text has no more lines than characters and one.
use Rattle.std.proofs.Common.{◌≤◌, ◌+◌, ◌==◌, ℕ, Bool, List, [], ◌∷◌, length, arith}
use Rattle.std.proofs.Common.{inl, inr}
use Rattle.std.specs.List.{slice_split}
use Rattle.std.proofs.lemmas.Bool.{cases_Bool}
use Rattle.std.proofs.lemmas.List.Splits.{length-slice_split}
use Rattle.std.proofs.lemmas.List.Sums.{count_by-le-length}
use Rattle.texts.specs.Words.{without_empty_end, lines_by_feed}

few_without : (parts : List (List ℕ)) → length (without_empty_end parts) ≤ length parts
few_without [] = omega arith
few_without (line ∷ []) = elim (cases_Bool (length line == 0)) [
  | inl t ↦ rw t (omega arith)
  | inr f ↦ rw f (omega arith)
]
few_without (line ∷ next ∷ later) = omega (arith, few_without (next ∷ later))

abbrev is_feed : ℕ → Bool
is_feed b = b == 10

pub few_lines : (text : List ℕ) → length (lines_by_feed text) ≤ length text + 1
few_lines text =
    omega (
      arith,
      few_without (slice_split is_feed text),
      length-slice_split is_feed text,
      count_by-le-length is_feed text,
    )
