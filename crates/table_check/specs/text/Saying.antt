-- What the words of a line say, word by word. No public contract cites this: `Lines` says which
-- words a line has.
use Rattle.std.specs.Prelude.{ℕ, ◌+◌, Bool, true, false, ◌==◌, nat_lt, List, [], ◌∷◌, ◌++◌}
use Rattle.std.specs.Prelude.{length, Option, Some, None, option_map, option_and_then, slice_get}
use Rattle.std.specs.Prelude.{if◌then◌else◌, codes}
use Rattle.std.specs.Str.{bytes_eq}
use Rattle.texts.specs.Decimal.{decimal_within}
use Rattle.texts.specs.Hex.{pair_of}
use Rattle.board.specs.Boards.{Board, place_of_name}
use Rattle.facts.specs.domain.Sets.{Set, is_rail, set_of}
use Rattle.facts.specs.declared.domain.source.Source.{Source}
use Rattle.facts.specs.declared.domain.source.Source.TheVariants as source
use Rattle.facts.specs.declared.domain.span.Span.{Span}
use Rattle.table_check.specs.declared.text.version.Version.{Version}
use Rattle.table_check.specs.declared.text.version.Version.TheVariants.{First, Second}
use Rattle.table_check.specs.text.Lines.{Words, register_names, counter_names}

-- what follows a key
abbrev pub after_key : List ℕ → Words → Option Words
after_key key [] = None
after_key key (word ∷ rest) = if bytes_eq word key then Some rest else None

-- what follows a key and a name
abbrev pub after_name : List ℕ → List ℕ → Words → Option Words
after_name key name words = option_and_then (after_key name) (after_key key words)

-- the values of words, behind those that are done, if each is at least one more than the last
abbrev pub at_least : ℕ → Option ℕ → Option ℕ
at_least least None = None
at_least least (Some v) = if nat_lt v least then None else Some v

abbrev pub ascending : (List ℕ → Option ℕ) → List ℕ → ℕ → Words → Option (List ℕ)
ascending value_of done least [] = Some done
ascending value_of done least (word ∷ words) =
    option_and_then (λ v. ascending value_of (done ++ v ∷ []) (v + 1) words)
    (at_least least (value_of word))

unfoldable pub rail_named : Board → List ℕ → Option ℕ
rail_named board name = place_of_name name board.rail_names

unfoldable pub target_named : Board → List ℕ → Option ℕ
target_named board name = place_of_name name board.target_names

unfoldable pub byte_set : (ℕ → Bool) → Words → Option Set
byte_set is_value words = option_and_then (set_of is_value) (ascending pair_of [] 0 words)

unfoldable pub rail_set : Board → Words → Option Set
rail_set board words = option_and_then (set_of is_rail) (ascending (rail_named board) [] 0 words)

-- of at least one value
abbrev pub some_bytes : (ℕ → Bool) → Words → Option Set
some_bytes is_value words = if length words == 0 then None else byte_set is_value words

-- the line of the target of an index, behind a key
unfoldable pub set_said : (ℕ → Bool) → List ℕ → Board → ℕ → Words → Option Set
set_said is_value key board index words =
    option_and_then (λ name. option_and_then (some_bytes is_value) (after_name key name words))
    (slice_get board.target_names index)

unfoldable pub good_said : Board → Words → Option Set
good_said board words = option_and_then (rail_set board) (after_key (codes "good") words)

-- numbers of 16 and of 64 bits
abbrev pub word_of : List ℕ → Option ℕ
word_of text = decimal_within 65535 text

abbrev pub number_of : List ℕ → Option ℕ
number_of text = decimal_within 18446744073709551615 text

unfoldable pub span_of : List ℕ → List ℕ → Option Span
span_of lo hi =
    option_and_then (λ l. option_map (λ h. record { lo = l; hi = h }) (word_of hi)) (word_of lo)

-- where a register's value is from: a kind alone, or a kind and a name
abbrev pub named_source : Board → List ℕ → List ℕ → Option Source
named_source board kind name =
    if bytes_eq kind (codes "status") then option_map source.Status (rail_named board name)
    else if bytes_eq kind (codes "page") then option_map source.Page (target_named board name)
    else if bytes_eq kind (codes "protect")
    then option_map source.Protect (target_named board name)
    else None

abbrev pub source_of : Board → Words → Option Source
source_of board (kind ∷ []) = if bytes_eq kind (codes "none") then Some source.None else None
source_of board (kind ∷ name ∷ []) = named_source board kind name
source_of board _ = None

abbrev pub sourced_span : Board → Words → Option (Span × Source)
sourced_span board (lo ∷ hi ∷ from) =
    option_and_then (λ span. option_map (λ s. (span, s)) (source_of board from)) (span_of lo hi)
sourced_span board _ = None

abbrev pub only_span : Words → Option Span
only_span (lo ∷ hi ∷ []) = span_of lo hi
only_span _ = None

-- the lines of the register and of the counter of an index
unfoldable pub register_said : Board → ℕ → Words → Option (Span × Source)
register_said board index words =
    option_and_then
    (λ name. option_and_then (sourced_span board) (after_name (codes "reg") name words))
    (slice_get register_names index)

unfoldable pub counter_said : ℕ → Words → Option Span
counter_said index words =
    option_and_then (λ name. option_and_then only_span (after_name (codes "counter") name words))
    (slice_get counter_names index)

-- base and coefficients
unfoldable pub five_numbers : List ℕ → List ℕ → List ℕ → List ℕ → List ℕ → Option (ℕ × List ℕ)
five_numbers base k0 k1 k2 k3 =
    option_and_then (λ b. option_and_then (λ n0. option_and_then (λ n1. option_and_then (λ n2.
    option_map (λ n3. (b, n0 ∷ n1 ∷ n2 ∷ n3 ∷ [])) (number_of k3)) (number_of k2))
    (number_of k1)) (number_of k0)) (number_of base)

-- and in the second form that of lost arbitrations
abbrev pub with_factor : Option (ℕ × List ℕ) → Option ℕ → Option (ℕ × List ℕ × ℕ)
with_factor five lost =
    option_and_then (λ f. option_map (λ k. (f.0, f.1, k)) lost) five

abbrev pub numbers_of : Version → Words → Option (ℕ × List ℕ × ℕ)
numbers_of First (base ∷ k0 ∷ k1 ∷ k2 ∷ k3 ∷ []) =
    with_factor (five_numbers base k0 k1 k2 k3) (Some 0)
numbers_of Second (base ∷ k0 ∷ k1 ∷ k2 ∷ k3 ∷ lost ∷ []) =
    with_factor (five_numbers base k0 k1 k2 k3) (number_of lost)
numbers_of _ _ = None

abbrev pub ticks_said : Version → Words → Option (ℕ × List ℕ × ℕ)
ticks_said v words = option_and_then (numbers_of v) (after_key (codes "ticks") words)

-- the line of lost arbitrations
abbrev pub lost_said : Words → Option Span
lost_said words = option_and_then only_span (after_key (codes "lost") words)

-- whether the place of this number has a row, by what follows the number
abbrev pub has_row : Words → Option Bool
has_row [] = Some true
has_row (word ∷ []) = if bytes_eq word (codes "none") then Some false else None
has_row _ = None

abbrev pub is_some_of : ℕ → Option ℕ → Bool
is_some_of place None = false
is_some_of place (Some n) = n == place

abbrev pub numbered : ℕ → Words → Option Bool
numbered place [] = None
numbered place (word ∷ words) = if is_some_of place (number_of word) then has_row words else None

abbrev pub head_said : ℕ → Words → Option Bool
head_said place words = option_and_then (numbered place) (after_key (codes "row") words)
