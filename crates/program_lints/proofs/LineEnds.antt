-- The last words of lines, kept in a set.
use Rattle.std.proofs.Common.{◌≡◌, ◌∙◌, ◌∷◌, ◌++◌, ◌||◌, ◌≤◌, ℕ, ◌-◌, List, [], Bool, true, false}
use Rattle.std.proofs.Common.{Bor, ap, arith, length, map, nat_lt, refl, slice_index_or, subst, sym}
use Rattle.std.proofs.Math.Bool.{or-true, or-false}
use Rattle.std.proofs.lemmas.Bool.{lt-ltb}
use Rattle.std.proofs.lemmas.List.{length-map, get_or-map}
use Rattle.std.proofs.lemmas.List.Folds.{list_any-append}
use Rattle.std.proofs.lemmas.Slice.Eq.{bytes_eq-Decides}
use Rattle.std.specs.List.{list_any}
use Rattle.std.specs.Prelude.{if◌then◌else◌}
use Rattle.std.specs.Str.{bytes_eq}
use Rattle.program_lints.specs.UnusedLabels.{ends_with}

abbrev Word : Type 0
Word = Bor (List ℕ)

abbrev is_in : List Word → List ℕ → Bool
is_in words name = list_any (λ w. bytes_eq name w.now) words

-- a word that is there adds no name
there_already : (name : List ℕ) (words : List Word) (word : Word) (same : Bool)
    → is_in words word.now ≡ true → bytes_eq name word.now ≡ same
    → is_in words name ≡ (is_in words name || same)
there_already name words word false has is = sym (or-false (is_in words name))
there_already name words word true has is =
    let there : is_in words name ≡ true =
    subst (λ n. is_in words n ≡ true) (sym ((bytes_eq-Decides name word.now).0 is)) has in
    there ∙ sym (or-true (is_in words name))

pushed : (name : List ℕ) (words : List Word) (word : Word)
    → is_in (words ++ word ∷ []) name ≡ (is_in words name || bytes_eq name word.now)
pushed name words word =
    list_any-append (λ w. bytes_eq name w.now) words (word ∷ [])
    ∙ ap (λ b. is_in words name || b) (or-false (bytes_eq name word.now))

-- with one more word, put in where it isn't there yet, its name is there too
pub with_word : (name : List ℕ) (words : List Word) (word : Word) (there : Bool)
    → is_in words word.now ≡ there
    → is_in (if there then words else words ++ word ∷ []) name
    ≡ (is_in words name || bytes_eq name word.now)
with_word name words word true has =
    there_already name words word (bytes_eq name word.now) has refl
with_word name words word false has = pushed name words word

-- the last of several words
pub last_word : (name : List ℕ) (words : List Word) → 2 ≤ length words
    → bytes_eq name
    (slice_index_or words (length words - 1) (record { ref_ptr = (0, 0); now = [] })).now
    ≡ ends_with name (map (λ w. w.now) words)
last_word name words several =
    let now : Word → List ℕ = λ w. w.now in
    let len : length (map now words) ≡ length words = length-map words now in
    let last : slice_index_or (map now words) (length words - 1) []
    ≡ (slice_index_or words (length words - 1) (record { ref_ptr = (0, 0); now = [] })).now =
    get_or-map now words (length words - 1) (record { ref_ptr = (0, 0); now = [] }) []
    (omega (arith, several)) in
    let many : nat_lt 1 (length words) ≡ true = lt-ltb 1 (length words) several in
    rw len (rw last (rw many refl))
