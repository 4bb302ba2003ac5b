-- A text has no more lines that count than it has lines, and no more of these than characters and
-- one.
use Rattle.std.proofs.Common.{◌≡◌, ◌≤◌, ◌+◌, ◌==◌, ℕ, List, [], ◌∷◌, None, map, filter, length}
use Rattle.std.proofs.Common.{arith, Bool, inl, inr}
use Rattle.std.specs.List.{enumerate_from, slice_split}
use Rattle.std.proofs.lemmas.Bool.{cases_Bool}
use Rattle.std.proofs.lemmas.List.{length-map}
use Rattle.std.proofs.lemmas.List.FromFn.{length-enumerate_from}
use Rattle.std.proofs.lemmas.List.Splits.{length-slice_split}
use Rattle.std.proofs.lemmas.List.Sums.{length-filter, count_by-le-length}
use Rattle.std.proofs.lemmas.Option.{slice_get_past}
use Rattle.texts.specs.Ascii as ascii
use Rattle.texts.specs.Words.{lines_by_feed, without_empty_end}
use Rattle.bundles.specs.CountedLines.{is_counted}
use Rattle.run_notes.specs.AnswerPlaces.{counted_line}

few_without : (parts : List (List ℕ)) → length (without_empty_end parts) ≤ length parts
few_without [] = omega arith
few_without (line ∷ []) = elim (cases_Bool (length line == 0)) [
  | inl t ↦ rw t (omega arith)
  | inr f ↦ rw f (omega arith)
]
few_without (line ∷ next ∷ later) = omega (arith, few_without (next ∷ later))

abbrev is_feed : ℕ → Bool
is_feed b = b == ascii.line_feed

few_lines : (text : List ℕ) → length (lines_by_feed text) ≤ length text + 1
few_lines text =
    omega (
      arith,
      few_without (slice_split is_feed text),
      length-slice_split is_feed text,
      count_by-le-length is_feed text,
    )

abbrev number : ℕ × List ℕ → ℕ
number n = n.0

abbrev counts : ℕ × List ℕ → Bool
counts n = is_counted n.1

pub none_past : (text : List ℕ) (place : ℕ) → length text + 1 ≤ place
    → counted_line place (lines_by_feed text) ≡ None
none_past text place past =
    let lines = lines_by_feed text in
    let numbered = enumerate_from 1 lines in
    let few = few_lines text in
    let all = length-enumerate_from 1 lines in
    let some = length-filter counts numbered in
    let fewer = count_by-le-length counts numbered in
    let same = length-map (filter counts numbered) number in
    slice_get_past (map number (filter counts numbered)) place
    (omega (arith, past, few, all, some, fewer, same))
