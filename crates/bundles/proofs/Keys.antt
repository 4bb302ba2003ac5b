-- Words in the order of their keys.
use Rattle.std.proofs.Common.{◌≡◌, ℕ, Bool, true, false, ◌==◌, ◌&&◌, ◌||◌, not, List, [], ◌∷◌, ◌++◌}
use Rattle.std.proofs.Common.{length}
use Rattle.std.proofs.Common.{drop, Option, Some, None, is_some, if◌then◌else◌, refl, ap, ◌∙◌, inl}
use Rattle.std.proofs.Common.{inr}
use Rattle.std.specs.Prelude.{nat_eq}
use Rattle.std.specs.List.{starts_with, list_all}
use Rattle.std.proofs.Math.Seq.{drop-append_seam}
use Rattle.std.proofs.lemmas.Slice.Eq.{starts_is}
use Rattle.std.proofs.lemmas.Bool.Decides.{Decides-eqb}
use Rattle.std.proofs.lemmas.Bool.{cases_Bool, and_parts}
use Rattle.bundles.specs.Bundles.{Line}
use Rattle.bundles.specs.Fields.{after_key, value_of, rest_of}
use Rattle.bundles.specs.Spelled.{KeyValues, spelled}

-- ---- a word and its key

behind_itself : (key value : List ℕ) → after_key key (key ++ value) ≡ Some value
unfolding after_key
behind_itself key value =
    let starts : starts_with nat_eq (key ++ value) key ≡ true =
    (starts_is Decides-eqb (key ++ value) key _ refl).1 value refl in
    rw (starts, drop-append_seam key value) refl

spells : (key word value : List ℕ) → after_key key word ≡ Some value → word ≡ key ++ value
unfolding after_key
spells key word value e = elim (cases_Bool (starts_with nat_eq word key)) [
  | inl t ↦
      let s : word ≡ key ++ drop (length key) word = (starts_is Decides-eqb word key _ refl).0 t in
      s ∙ ap (λ (v : List ℕ). key ++ v) (some_of (rw t at e))
  | inr f ↦ let none : None ≡ Some value = rw f at e in absurd (cc)
]
  where
    some_of : {v w : List ℕ} → Some v ≡ Some w → v ≡ w
    some_of e = cc

-- keys that differ in a letter, and not in length alone
abbrev are_apart : List ℕ → List ℕ → Bool
are_apart [] other = false
are_apart (a ∷ more) [] = false
are_apart (a ∷ more) (b ∷ others) = not (a == b) || are_apart more others

not_started : (key other value : List ℕ) → are_apart key other ≡ true
    → starts_with nat_eq (other ++ value) key ≡ false
not_started [] other value t = absurd (cc)
not_started (a ∷ more) [] value t = absurd (cc)
not_started (a ∷ more) (b ∷ others) value t = by (a == b) t (not_started more others value)
  where
    by : (same : Bool) → (not same || are_apart more others) ≡ true
        → (are_apart more others ≡ true → starts_with nat_eq (others ++ value) more ≡ false)
        → (same && starts_with nat_eq (others ++ value) more) ≡ false
    by true t rest = rest t
    by false t rest = refl

behind_another : (key other value : List ℕ) → are_apart key other ≡ true
    → after_key key (other ++ value) ≡ None
unfolding after_key
behind_another key other value t = rw (not_started key other value t) refl

-- ---- a list of words

-- a word more, where there is a value
abbrev pub front : List ℕ → Option (List ℕ) → List Line → List Line
front key None words = words
front key (Some value) words = (key ++ value) ∷ words

taken_word : (key word : List ℕ) (later : List Line) (o : Option (List ℕ)) → after_key key word ≡ o
    → word ∷ later ≡ front key o (if is_some o then later else word ∷ later)
taken_word key word later None e = refl
taken_word key word later (Some value) e = ap (λ (w : Line). w ∷ later) (spells key word value e)

-- what is taken and what is left are the words
taken_words : (key : List ℕ) (words : List Line)
    → words ≡ front key (value_of key words) (rest_of key words)
unfolding value_of rest_of
taken_words key [] = refl
taken_words key (word ∷ later) = taken_word key word later (after_key key word) refl

front_spelled : (key : List ℕ) (o : Option (List ℕ)) (later : KeyValues)
    → front key o (spelled later) ≡ spelled ((key, o) ∷ later)
front_spelled key None later = refl
front_spelled key (Some value) later = refl

pub spelled_by : (key : List ℕ) (words : List Line) (later : KeyValues)
    → rest_of key words ≡ spelled later → words ≡ spelled ((key, value_of key words) ∷ later)
spelled_by key words later e =
    taken_words key words ∙ ap (front key (value_of key words)) e
    ∙ front_spelled key (value_of key words) later

-- ---- and back

abbrev pub is_new : List ℕ → KeyValues → Bool
is_new key later = list_all (λ (f : List ℕ × Option (List ℕ)). are_apart key f.0) later

-- no word of these has the key
record Unspelled (key : List ℕ) (words : List Line) : Type 0 where
  none : value_of key words ≡ None
  all : rest_of key words ≡ words

unspelled_word : (key word : List ℕ) (later : List Line) → after_key key word ≡ None
    → Unspelled key (word ∷ later)
unfolding value_of rest_of
unspelled_word key word later e = record { none = e; all = rw e refl }

unspelled : (key : List ℕ) (later : KeyValues) → is_new key later ≡ true
    → Unspelled key (spelled later)
unfolding value_of rest_of
unspelled key [] t = record { none = refl; all = refl }
unspelled key ((other, None) ∷ later) t =
    unspelled key later (and_parts (are_apart key other) (is_new key later) t).1
unspelled key ((other, Some value) ∷ later) t =
    unspelled_word key (other ++ value) (spelled later)
    (behind_another key other value (and_parts (are_apart key other) (is_new key later) t).0)

pub value_spelled : (key : List ℕ) (o : Option (List ℕ)) (later : KeyValues)
    → is_new key later ≡ true
    → value_of key (spelled ((key, o) ∷ later)) ≡ o
unfolding value_of
value_spelled key None later t = (unspelled key later t).none
value_spelled key (Some value) later t = behind_itself key value

pub rest_spelled : (key : List ℕ) (o : Option (List ℕ)) (later : KeyValues)
    → is_new key later ≡ true
    → rest_of key (spelled ((key, o) ∷ later)) ≡ spelled later
unfolding rest_of
rest_spelled key None later t = (unspelled key later t).all
rest_spelled key (Some value) later t = rw (behind_itself key value) refl
