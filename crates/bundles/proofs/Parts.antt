-- The parts of a bundle between its header lines.
use Rattle.std.proofs.Common.{◌≡◌, ℕ, suc, ◌+◌, ◌++◌, true, false, List, [], ◌∷◌}
use Rattle.std.proofs.Common.{length, take, drop, count_by, length-drop, refl, sym, ap, ◌∙◌, arith}
use Rattle.std.specs.Prelude.{All}
use Rattle.std.specs.List.{slice_split}
use Rattle.std.proofs.lemmas.List.{take-append-drop, append-nil}
use Rattle.std.proofs.lemmas.List.Splits.{slice_split_at, slice_split_none, length-slice_split}
use Rattle.bundles.specs.Bundles.{Line, starts_section, numbered, sections_of}

-- a header ends the part above it
pub part_ends : (all : List Line) (count : ℕ) (header : Line) (below : List Line)
    → header ∷ below ≡ drop count all → All (λ l. starts_section l ≡ false) (take count all)
    → starts_section header ≡ true
    → slice_split starts_section all ≡ take count all ∷ slice_split starts_section below
part_ends all count header below left none starts =
    ap (slice_split starts_section)
    (sym (take-append-drop count all) ∙ ap (λ (l : List Line). take count all ++ l) (sym left))
    ∙ slice_split_at starts_section (take count all) header below none starts

pub all_taken : (all : List Line) (count : ℕ) → [] ≡ drop count all → take count all ≡ all
all_taken all count left =
    sym (append-nil (take count all)) ∙ ap (λ (l : List Line). take count all ++ l) left
    ∙ take-append-drop count all

-- and the end of the text ends the last
pub last_part : (all : List Line) (count : ℕ)
    → [] ≡ drop count all → All (λ l. starts_section l ≡ false) (take count all)
    → slice_split starts_section all ≡ take count all ∷ []
last_part all count left none =
    ap (slice_split starts_section) (sym (all_taken all count left))
    ∙ slice_split_none starts_section (take count all) none

-- ---- how many there are

length-numbered : (number : ℕ) (parts : List (List Line))
    → length (numbered number parts) ≡ length parts
length-numbered number [] = refl
length-numbered number (part ∷ later) = ap suc (length-numbered (number + length part + 1) later)

pub length-sections_of : (lines : List Line)
    → length (sections_of lines) ≡ count_by starts_section lines
length-sections_of lines =
    omega (
      arith,
      length-drop 1 (numbered 2 (slice_split starts_section lines)),
      length-numbered 2 (slice_split starts_section lines),
      length-slice_split starts_section lines,
    )
