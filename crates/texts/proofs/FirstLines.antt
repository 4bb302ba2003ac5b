-- The first line of a text, and those below it.
use Rattle.std.proofs.Common.{◌≡◌, ◌≢◌, ◌<◌, ◌-◌, ◌++◌, ◌==◌, ℕ, suc, Bool, false, List}
use Rattle.std.proofs.Common.{[], ◌∷◌, length, take, drop, refl, sym, ap, ◌∙◌, inl, inr, arith}
use Rattle.std.specs.List.{slice_split, slice_index}
use Rattle.std.specs.Str.Lines.{lines, strip_carriage_return}
use Rattle.std.proofs.Math.Seq.{drop-cons}
use Rattle.std.proofs.Math.ListN.{drop_of_length-le}
use Rattle.std.proofs.lemmas.Bool.{cases_Bool, eqb-true}
use Rattle.std.proofs.lemmas.List.{take-append-drop}
use Rattle.std.proofs.lemmas.List.Splits.{length-slice_split}
use Rattle.texts.specs.Cuts.{IsCutAt, HasNo}
use Rattle.texts.specs.Words.{lines_by_feed}
use Rattle.texts.proofs.CutParts.{one_part, first_part}

abbrev is_feed : ℕ → Bool
is_feed b = b == 10

-- below a feed stands a part at least
record Parted (parts : List (List ℕ)) : Type 0 where
  pub first : List ℕ
  pub later : List (List ℕ)
  pub is : parts ≡ first ∷ later

parted : (parts : List (List ℕ)) → 0 < length parts → Parted parts
parted [] some = absurd (omega arith)
parted (x ∷ parts) some = record { first = x; later = parts; is = refl }

is_parted : (text : List ℕ) → Parted (slice_split is_feed text)
is_parted text =
    parted (slice_split is_feed text) (omega (arith, length-slice_split is_feed text))

-- ---- lines that end with a feed alone

pub first_fed : (text line below : List ℕ) → IsCutAt 10 text line below
    → lines_by_feed text ≡ line ∷ lines_by_feed below
first_fed text line below cut =
    let p = is_parted below in
    rw (first_part 10 text line below cut, p.is) refl

pub last_fed : (text : List ℕ) → HasNo 10 text → (length text == 0) ≡ false
    → lines_by_feed text ≡ text ∷ []
last_fed text none some = rw (one_part 10 text none, some) refl

-- ---- lines that may end with a carriage return and a feed

pub first_of_lines : (text line below : List ℕ) → IsCutAt 10 text line below
    → lines text ≡ strip_carriage_return line ∷ lines below
first_of_lines text line below cut =
    let p = is_parted below in
    rw (first_part 10 text line below cut, p.is) refl

pub last_of_lines : (text : List ℕ) → HasNo 10 text → (length text == 0) ≡ false
    → lines text ≡ text ∷ []
last_of_lines text none some = rw (one_part 10 text none, some) refl

-- ---- a carriage return at the end

pub no_return : (line : List ℕ) → ((front : List ℕ) → line ≢ front ++ 13 ∷ [])
    → line ≡ strip_carriage_return line
no_return [] none = refl
no_return (x ∷ xs) none = elim (cases_Bool (slice_index (x ∷ xs) (length (x ∷ xs) - 1) == 13)) [
  | inl t ↦
      let line = x ∷ xs in
      let n = length line - 1 in
      let last : drop n line ≡ 13 ∷ [] =
      drop-cons line n 0 (omega arith)
      ∙ cc (eqb-true _ 13 t, drop_of_length-le line {i = suc n} (omega arith)) in
      absurd (none (take n line)
      (sym (ap (λ (l : List ℕ). take n line ++ l) (sym last) ∙ take-append-drop n line)))
  | inr f ↦ rw f refl
]
