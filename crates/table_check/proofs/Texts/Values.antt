-- The values of a set, written one after another.
use Rattle.std.proofs.Common.{◌≡◌, ℕ, suc, ◌+◌, ◌-◌, ◌<◌, ◌≤◌, List, [], ◌++◌, length, map, filter}
use Rattle.std.proofs.Common.{refl, sym, ap, ◌∙◌, arith, inl, inr}
use Rattle.std.specs.List.{range_with_len}
use Rattle.std.proofs.lemmas.List.{append_assoc, append-nil}
use Rattle.std.proofs.lemmas.Bool.{cases_Bool}
use Rattle.facts.specs.domain.Sets.{Set}
use Rattle.board.specs.Boards.{Board}
use Rattle.table_check.specs.text.Written.{all_spaced, if_chosen, words_from}
use Rattle.table_check.specs.text.Lines.{name_at, byte_words, rail_words, values_below}
use Rattle.texts.specs.Hex.{pair_text}

next_value : (set : Set) (word : ℕ → List ℕ) (value more : ℕ)
    → all_spaced (map word (filter set (range_with_len value (suc more)))) ≡ if_chosen (set value)
    (word value) ++ all_spaced (map word (filter set (range_with_len (value + 1) more)))
next_value set word value more = elim (cases_Bool (set value)) [
  | inl t ↦ rw t refl
  | inr f ↦ rw f refl
]

one_value : (set : Set) (word : ℕ → List ℕ) (value last : ℕ) → value < last
    → words_from set word value last
    ≡ if_chosen (set value) (word value) ++ words_from set word (value + 1) last
unfolding words_from
one_value set word value last less =
    let left : last - value ≡ suc (last - (value + 1)) = omega arith in
    ap (λ n. all_spaced (map word (filter set (range_with_len value n)))) left
    ∙ next_value set word value (last - (value + 1))

-- a value is written, and the others are left
pub value_written : (set : Set) (word : ℕ → List ℕ) (value last : ℕ) (old new whole : List ℕ)
    → value < last → new ≡ old ++ if_chosen (set value) (word value)
    → old ++ words_from set word value last ≡ whole
    → new ++ words_from set word (value + 1) last ≡ whole
value_written set word value last old new whole less is all =
    ap (λ xs. xs ++ words_from set word (value + 1) last) is
    ∙ append_assoc old (if_chosen (set value) (word value)) (words_from set word (value + 1) last)
    ∙ ap (λ xs. old ++ xs) (sym (one_value set word value last less))
    ∙ all

values_end : (set : Set) (word : ℕ → List ℕ) (value last : ℕ) → last ≤ value
    → words_from set word value last ≡ []
unfolding words_from
values_end set word value last all = let none : last - value ≡ 0 = omega arith in rw none refl

-- all values are written
pub values_written : (set : Set) (word : ℕ → List ℕ) (value last : ℕ) (new whole : List ℕ)
    → last ≤ value → new ++ words_from set word value last ≡ whole → new ≡ whole
values_written set word value last new whole end all =
    sym (append-nil new) ∙ ap (λ xs. new ++ xs) (sym (values_end set word value last end)) ∙ all

-- from the first value on
pub all_bytes : (set : Set) → words_from set pair_text 0 256 ≡ all_spaced (byte_words set)
unfolding words_from values_below
all_bytes set = refl

pub all_rails : (b : Board) (set : Set)
    → words_from set (name_at b.rail_names) 0 (length b.rails) ≡ all_spaced (rail_words b set)
unfolding words_from values_below
all_rails b set = let e : length b.rails - 0 ≡ length b.rails = omega arith in rw e refl
