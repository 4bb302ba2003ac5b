-- What a word in quotes writes.
use Rattle.std.proofs.Common.{◌≡◌, ℕ, ◌<◌, ◌≤◌, List, length, take, true, false, nat_lt}
use Rattle.std.proofs.Common.{IfSome, slice_index, refl, sym, ap, ◌∙◌, subst, arith, append-nil}
use Rattle.std.proofs.Common.{inl, inr}
use Rattle.std.specs.Prelude.{codes, Some}
use Rattle.std.specs.Char.{is_ascii}
use Rattle.std.specs.Fmt.{debug_str, ◌++?◌}
use Rattle.std.specs.List.{list_all}
use Rattle.std.specs.Str.{IsCharBoundary}
use Rattle.std.proofs.lemmas.Bool.{cases_Bool}
use Rattle.std.proofs.lemmas.Bool.Decides.{nat_tests}
use Rattle.std.proofs.lemmas.List.Folds.{list_all_at}
use Rattle.std.proofs.lemmas.List.{take_all}
use Rattle.notes.specs.ShownLines.{most_quoted, IsLongWith, quoted}

-- each byte of a word of ASCII is ASCII
is_small : (word : List ℕ) (i : ℕ) → list_all is_ascii word ≡ true → i < length word
    → slice_index word i < 128
is_small word i t lt =
    elim (cases_Bool (is_ascii (slice_index word i))) [
      | inl y ↦ grind (arith, nat_tests)
      | inr n ↦ let none = list_all_at is_ascii word i 0 lt n in cc
    ]

-- so its characters end anywhere
ends_there : (word : List ℕ) (i : ℕ) → list_all is_ascii word ≡ true → i < length word
    → IsCharBoundary word i
ends_there word i t lt =
    let small = is_small word i t lt in (omega arith, λ less high. omega arith)

-- and as many bytes as are shown hold as many characters
long_size : (word beginning : List ℕ) → IsLongWith word beginning → list_all is_ascii word ≡ true
    → beginning ≡ take most_quoted word
long_size word beginning long t =
    let whole = ends_there word most_quoted t long.long in
    elim (cases_Bool (nat_lt long.size most_quoted)) [
      | inl y ↦ absurd (long.front.most most_quoted (grind (arith, nat_tests)) (omega arith) whole)
      | inr n ↦
          let size : long.size ≡ most_quoted = grind (arith, nat_tests, long.front.few) in
          long.is ∙ ap (λ m. take m word) size
    ]

-- what is written of a word is what is promised, where something is
quoted_whole : (word : List ℕ) → length word ≤ most_quoted → list_all is_ascii word ≡ true
    → quoted word ≡ debug_str word
quoted_whole word few t =
    let all : take most_quoted word ≡ word = take_all most_quoted word few in
    let over : nat_lt most_quoted (length word) ≡ false = grind (arith, nat_tests) in
    rw t (rw all (rw t (rw over (ap Some (append-nil _)))))

quoted_beginning : (word beginning : List ℕ) → IsLongWith word beginning
    → list_all is_ascii word ≡ true → quoted word ≡ debug_str beginning ++? Some (codes "..")
quoted_beginning word beginning long t =
    let over : nat_lt most_quoted (length word) ≡ true = grind (arith, nat_tests, long.long) in
    rw t (rw (long_size word beginning long t) (rw over refl))

pub tells_whole : (word : List ℕ) (P : List ℕ → Type 0) → length word ≤ most_quoted
    → IfSome (debug_str word) P → IfSome (quoted word) P
tells_whole word P few told =
    elim (cases_Bool (list_all is_ascii word)) [
      | inl t ↦ subst (λ o. IfSome o P) (sym (quoted_whole word few t)) told
      | inr f ↦ rw f tt
    ]

pub tells_beginning : (word beginning : List ℕ) (P : List ℕ → Type 0)
    → IsLongWith word beginning → IfSome (debug_str beginning ++? Some (codes "..")) P
    → IfSome (quoted word) P
tells_beginning word beginning P long told =
    elim (cases_Bool (list_all is_ascii word)) [
      | inl t ↦ subst (λ o. IfSome o P) (sym (quoted_beginning word beginning long t)) told
      | inr f ↦ rw f tt
    ]
