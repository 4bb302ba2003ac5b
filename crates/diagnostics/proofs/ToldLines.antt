-- Notes on lines of a program, one after another: of some things those that have a line to be told
-- on.
use Rattle.std.proofs.Common.{◌≡◌, ◌∷◌, ◌++◌, ◌∙◌, ℕ, List, [], Option, Some, None, All, map}
use Rattle.std.proofs.Common.{◌<◌, ◌+◌, MatchOption, ap, arith, drop, length, slice_index_or, suc}
use Rattle.std.proofs.Common.{sym, subst, append_assoc}
use Rattle.std.proofs.Math.Seq.{drop-cons}
use Rattle.std.specs.Prelude.{Bool, true, false, IsSomeAnd, codes, if◌then◌else◌}
use Rattle.std.specs.List.{cons_option, filter_map}
use Rattle.std.proofs.lemmas.List.{map_push}
use Rattle.std.proofs.lemmas.List.Elements.{All-push}
use Rattle.notes.specs.declared.level.Level.{Level}
use Rattle.notes.specs.declared.note.Note.{Note}
use Rattle.notes.specs.Lines.{line_at}
use Rattle.notes.specs.Notes.{IsOn, IsQuoting}

-- a note of a level on its line of a program
abbrev pub IsOfLevel : Level → List (List ℕ) → Note → Type 0
IsOfLevel level lines note = IsOn level (codes "%program") note.line lines note

-- of all things those before the rest have a note, if they have a line
pub record AreNoted {X : Type 0} (level : Level) (line_of : X → Option ℕ) (lines : List (List ℕ))
    (all rest : List X) (notes : List Note) : Type 0 where
  pub each : All (IsOfLevel level lines) notes
  pub lines_are : map (λ n. n.line) notes ++ filter_map line_of rest ≡ filter_map line_of all

-- what is answered for a thing: a note on its line, if it has one
abbrev pub IsNoteOn : Level → List (List ℕ) → Option ℕ → Option Note → Type 0
IsNoteOn level lines line note =
    MatchOption line (note ≡ None)
    (λ n. IsSomeAnd note (IsOn level (codes "%program") n lines))

noted_on : {X : Type 0} (level : Level) (line_of : X → Option ℕ) (lines : List (List ℕ))
    (all rest : List X) (old : List Note) (note : Note) (line : Option ℕ)
    → All (IsOfLevel level lines) old
    → map (λ n. n.line) old ++ cons_option line (filter_map line_of rest) ≡ filter_map line_of all
    → IsNoteOn level lines line (Some note)
    → AreNoted level line_of lines all rest (old ++ note ∷ [])
noted_on level line_of lines all rest old note None each is on = cc
noted_on level line_of lines all rest old note (Some n) each is on = record {
  each = All-push (IsOfLevel level lines) old note each
      (subst (λ (n : ℕ). IsOn level (codes "%program") n lines note) (sym on.on_line) on);
  lines_are =
      ap (λ (xs : List ℕ). xs ++ filter_map line_of rest)
      (map_push (λ (n : Note). n.line) old note)
      ∙ append_assoc (map (λ (n : Note). n.line) old) (note.line ∷ []) (filter_map line_of rest)
      ∙ ap (λ (n : ℕ). map (λ (n : Note). n.line) old ++ n ∷ filter_map line_of rest) on.on_line
      ∙ is;
}

-- a thing with a note
pub one_noted : {X : Type 0} (level : Level) (line_of : X → Option ℕ) (lines : List (List ℕ))
    (all rest : List X) (old : List Note) (note : Note) (x : X)
    → All (IsOfLevel level lines) old
    → map (λ n. n.line) old ++ filter_map line_of (x ∷ rest) ≡ filter_map line_of all
    → IsNoteOn level lines (line_of x) (Some note)
    → AreNoted level line_of lines all rest (old ++ note ∷ [])
one_noted level line_of lines all rest old note x each is on =
    noted_on level line_of lines all rest old note (line_of x) each is on

none_on : {X : Type 0} (level : Level) (line_of : X → Option ℕ) (lines : List (List ℕ))
    (all rest : List X) (old : List Note) (line : Option ℕ) → All (IsOfLevel level lines) old
    → map (λ n. n.line) old ++ cons_option line (filter_map line_of rest) ≡ filter_map line_of all
    → IsNoteOn level lines line None → AreNoted level line_of lines all rest old
none_on level line_of lines all rest old None each is on = record { each = each; lines_are = is }
none_on level line_of lines all rest old (Some n) each is on = absurd on

-- and one without
pub none_noted : {X : Type 0} (level : Level) (line_of : X → Option ℕ) (lines : List (List ℕ))
    (all rest : List X) (old : List Note) (x : X) → All (IsOfLevel level lines) old
    → map (λ n. n.line) old ++ filter_map line_of (x ∷ rest) ≡ filter_map line_of all
    → IsNoteOn level lines (line_of x) None → AreNoted level line_of lines all rest old
none_noted level line_of lines all rest old x each is on =
    none_on level line_of lines all rest old (line_of x) each is on

-- the first of those that are left
pub next_is : {X : Type 0} (xs : List X) (i : ℕ) (d : X) → i < length xs
    → drop i xs ≡ slice_index_or xs i d ∷ drop (i + 1) xs
next_is {X} xs i d lt =
    let same : suc i ≡ i + 1 = omega arith in
    subst (λ (n : ℕ). drop i xs ≡ slice_index_or xs i d ∷ drop n xs) same (drop-cons xs i d lt)

-- a note that quotes a line, unless something is allowed there
pub noted_unless : (level : Level) (lines : List (List ℕ)) (number : ℕ) (allowed : Bool)
    (note : Option Note)
    → MatchOption (if allowed then None else Some number) (note ≡ None)
    (λ n. IsSomeAnd note (IsQuoting level (codes "%program") n (line_at number lines)))
    → IsNoteOn level lines (if allowed then None else Some number) note
noted_unless level lines number true told is = is
noted_unless level lines number false told is = is
