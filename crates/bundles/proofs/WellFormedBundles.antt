-- A bundle that is read has exactly the headers of its command.
use Rattle.std.proofs.Common.{◌≡◌, ℕ, zero, suc, ◌+◌, ◌≤◌, Bool, true, false, not, ◌||◌, nat_lt}
use Rattle.std.proofs.Common.{List, [], ◌∷◌, ◌++◌, length, take, drop, map, filter, find, count_by}
use Rattle.std.proofs.Common.{Option, Some, None, option_map, Result, Ok, refl, sym, ap, subst, ◌∙◌}
use Rattle.std.proofs.Common.{inl, inr, arith, append_assoc, length-append}
use Rattle.std.specs.Prelude.{slice_get}
use Rattle.std.specs.List.{enumerate_from, slice_split, onto_first, list_all}
use Rattle.std.proofs.lemmas.List.{take_all}
use Rattle.std.proofs.lemmas.List.Sums.{length-filter}
use Rattle.std.proofs.lemmas.List.Elements.{filter-append}
use Rattle.std.proofs.lemmas.Bool.{cases_Bool}
use Rattle.std.proofs.lemmas.List.Splits.{slice_split-cons_yes, slice_split-cons_no}
use Rattle.std.proofs.lemmas.Slice.Eq.{bytes_eq-Decides}
use Rattle.bundles.specs.declared.fault.BundleFault.{BundleFault}
use Rattle.bundles.specs.declared.command.Header.{Header}
use Rattle.texts.specs.Reading.{◌>>=◌}
use Rattle.bundles.specs.declared.command.Command.{Command}
use Rattle.bundles.specs.declared.fault.BundleFault.TheVariants.{MissingSection}
use Rattle.bundles.specs.Bundles.{Line, Bundle, headers_of, starts_section, is_blank, is_header}
use Rattle.bundles.specs.Bundles.{belongs, header_text, is_unexpected, first_unexpected}
use Rattle.bundles.specs.Bundles.{sections_of}
use Rattle.bundles.specs.Bundles.{unless, bundle_below}
use Rattle.bundles.specs.WellFormed.{NoOthersAreRead}

-- a list as a front and the rest of it
pub front_of : {X : Type 0} (xs ys : List X) → take (length xs) (xs ++ ys) ≡ xs
front_of [] [] = refl
front_of [] (y ∷ ys) = refl
front_of (x ∷ xs) ys = ap (λ (zs : List _). x ∷ zs) (front_of xs ys)

-- none of the lines below is unexpected
abbrev pub AllBelong : List Header → List Line → List Line → Type 0
AllBelong headers above [] = Unit {0}
AllBelong headers above (line ∷ below) =
    (belongs headers (length (filter starts_section above)) line ≡ true)
    × AllBelong headers (above ++ line ∷ []) below

find_none : {X : Type 0} (p : X → Bool) (x : X) (xs : List X) → find p (x ∷ xs) ≡ None
    → (p x ≡ false) × (find p xs ≡ None)
find_none p x xs e = elim (cases_Bool (p x)) [
  | inl t ↦ let z : Some x ≡ None = rw t at e in absurd (cc)
  | inr t ↦ (t, rw t at e)
]

all_belong : (headers : List Header) (lines above below : List Line) → lines ≡ above ++ below
    → find (is_unexpected headers lines) (enumerate_from (length above) below) ≡ None
    → AllBelong headers above below
all_belong headers lines above [] e none = tt
all_belong headers lines above (line ∷ below) e none =
    let h = find_none (is_unexpected headers lines) (length above, line)
    (enumerate_from (length above + 1) below) none in
    let front : take (length above) lines ≡ above =
    ap (take (length above)) e ∙ front_of above (line ∷ below) in
    let count : count_by starts_section (take (length above) lines)
    ≡ length (filter starts_section above)
    = ap (count_by starts_section) front ∙ sym (length-filter starts_section above) in
    let here : not (belongs headers (length (filter starts_section above)) line) ≡ false
    = subst (λ (n : ℕ). not (belongs headers n line) ≡ false) count h.0 in
    let more : length (above ++ line ∷ []) ≡ length above + 1 = length-append above (line ∷ []) in
    let next : find (is_unexpected headers lines)
    (enumerate_from (length (above ++ line ∷ [])) below) ≡ None
    =
    subst (λ (n : ℕ). find (is_unexpected headers lines) (enumerate_from n below) ≡ None)
    (sym more) h.1 in (
      not_false _ here,
      all_belong headers lines (above ++ line ∷ []) below
          (e ∙ sym (append_assoc above (line ∷ []) below)) next,
    )
  where
    not_false : (b : Bool) → not b ≡ false → b ≡ true
    not_false true n = refl
    not_false false n = absurd (cc)

-- ---- the headers

pub record IsHeaderAt (headers : List Header) (place : ℕ) (line : Line) : Type 0 where
  pub header : Header
  pub here : drop place headers ≡ header ∷ drop (suc place) headers
  pub is : line ≡ header_text header

header_at : (headers : List Header) (place : ℕ) (line : Line)
    → is_header (slice_get headers place) line ≡ true → IsHeaderAt headers place line
header_at [] place line e = absurd (cc)
header_at (header ∷ headers) zero line e =
    record { header = header; here = refl; is = (bytes_eq-Decides line (header_text header)).0 e }
header_at (header ∷ headers) (suc place) line e =
    let h = header_at headers place line e in
    record { header = h.header; here = h.here; is = h.is }

abbrev pub seen : List Line → ℕ
seen lines = length (filter starts_section lines)

pub seen_header : (above : List Line) (line : Line) → starts_section line ≡ true
    → seen (above ++ line ∷ []) ≡ suc (seen above)
seen_header above line t = rw (
  filter-append starts_section above (line ∷ []),
  t,
  length-append (filter starts_section above) (line ∷ []),
) (omega arith)

pub seen_other : (above : List Line) (line : Line) → starts_section line ≡ false
    → seen (above ++ line ∷ []) ≡ seen above
seen_other above line t = rw (
  filter-append starts_section above (line ∷ []),
  t,
  length-append (filter starts_section above) [],
) (omega arith)

headers_cons : (headers : List Header) (above below : List Line) (line : Line) (b : Bool)
    → starts_section line ≡ b → belongs headers (seen above) line ≡ true
    → filter starts_section below
    ≡ map header_text (take (seen below) (drop (seen (above ++ line ∷ [])) headers))
    → filter starts_section (line ∷ below)
    ≡ map header_text (take (seen (line ∷ below)) (drop (seen above) headers))
headers_cons headers above below line true t here later =
    let h = header_at headers (seen above) line (rw t at here) in
    let next : drop (seen (above ++ line ∷ [])) headers ≡ drop (suc (seen above)) headers =
    ap (λ (n : ℕ). drop n headers) (seen_header above line t) in
    rw (t, h.here) (cc (h.is, later, next))
headers_cons headers above below line false t here later =
    let next : drop (seen (above ++ line ∷ [])) headers ≡ drop (seen above) headers =
    ap (λ (n : ℕ). drop n headers) (seen_other above line t) in
    rw t (later ∙ ap (λ (hs : List Header). map header_text (take (seen below) hs)) next)

headers_below : (headers : List Header) (above below : List Line) → AllBelong headers above below
    → filter starts_section below ≡ map header_text (take (seen below) (drop (seen above) headers))
headers_below headers above [] belong = refl
headers_below headers above (line ∷ below) belong =
    headers_cons headers above below line (starts_section line) refl belong.0
    (headers_below headers (above ++ line ∷ []) below belong.1)

-- ---- the lines above the first header

pub record HasBlankFront (below : List Line) : Type 0 where
  pub front : List Line
  pub parts : List (List Line)
  pub split : slice_split starts_section below ≡ front ∷ parts
  pub blank : list_all is_blank front ≡ true

first_or : (b : Bool) (n : ℕ) → n ≡ 0 → (b || nat_lt 0 n) ≡ true → b ≡ true
first_or true n none e = refl
first_or false n none e = let z : nat_lt 0 0 ≡ true = rw none at e in absurd (cc)

blank_cons : (headers : List Header) (above below : List Line) (line : Line) (b : Bool)
    → starts_section line ≡ b → belongs headers (seen above) line ≡ true → seen above ≡ 0
    → (seen (above ++ line ∷ []) ≡ 0 → HasBlankFront below) → HasBlankFront (line ∷ below)
blank_cons headers above below line true t here none later = record {
  front = [];
  parts = slice_split starts_section below;
  split = slice_split-cons_yes starts_section line below t;
  blank = refl;
}
blank_cons headers above below line false t here none later =
    let h = later (seen_other above line t ∙ none) in
    let spaces : (is_blank line || nat_lt 0 (seen above)) ≡ true = rw t at here in
    let blank : is_blank line ≡ true = first_or (is_blank line) (seen above) none spaces in
    record {
      front = line ∷ h.front;
      parts = h.parts;
      split = slice_split-cons_no starts_section line below t ∙ ap (onto_first line) h.split;
      blank = rw blank h.blank;
    }

blank_front : (headers : List Header) (above below : List Line) → AllBelong headers above below
    → seen above ≡ 0 → HasBlankFront below
blank_front headers above [] belong none =
    record { front = []; parts = []; split = refl; blank = refl }
blank_front headers above (line ∷ below) belong none =
    blank_cons headers above below line (starts_section line) refl belong.0 none
    (blank_front headers (above ++ line ∷ []) below belong.1)

-- ---- the whole

-- nothing is unexpected, and no header is missing
pub record IsRead (command : Command) (lines : List Line) (bundle : Bundle) : Type 0 where
  pub placed : first_unexpected (headers_of command) lines ≡ None
  pub whole : slice_get (headers_of command) (count_by starts_section lines) ≡ None
  pub is : bundle ≡ record { command = command; sections = sections_of lines }

abbrev with_headers : Command → Option Header → List Line → Result Bundle BundleFault
with_headers command missing lines =
    unless (option_map (λ header. (MissingSection header)) missing) lines >>= λ whole.
    Ok (record { command = command; sections = sections_of whole })

pub steps : (command : Command) (lines : List Line) (bundle : Bundle) (o : Option (ℕ × Line))
    (p : Option Header) → first_unexpected (headers_of command) lines ≡ o
    → slice_get (headers_of command) (count_by starts_section lines) ≡ p
    → bundle_below command lines ≡ Ok bundle → IsRead command lines bundle
unfolding bundle_below
steps command lines bundle (Some x) p t u e = let z = rw t at e in absurd (cc)
steps command lines bundle None (Some header) t u e = let z = rw (t, u) at e in absurd (cc)
steps command lines bundle None None t u e =
    let z = rw (t, u) at e in
    record { placed = t; whole = u; is = cc }

past_end : {X : Type 0} (xs : List X) (n : ℕ) → slice_get xs n ≡ None → length xs ≤ n
past_end [] n e = omega arith
past_end (x ∷ xs) zero e = absurd (cc)
past_end (x ∷ xs) (suc n) e = let h = past_end xs n e in omega arith

pub well_formed : NoOthersAreRead
well_formed command lines bundle e =
    let h = steps command lines bundle (first_unexpected (headers_of command) lines)
    (slice_get (headers_of command) (count_by starts_section lines)) refl refl e in
    let belong = all_belong (headers_of command) lines [] lines refl h.placed in
    let blank = blank_front (headers_of command) [] lines belong refl in
    let most : length (headers_of command) ≤ seen lines = omega (
      arith,
      past_end (headers_of command) (count_by starts_section lines) h.whole,
      length-filter starts_section lines,
    ) in
    record {
      headers =
          headers_below (headers_of command) [] lines belong
          ∙ ap (map header_text) (take_all (seen lines) (headers_of command) most);
      above = blank.front;
      parts = blank.parts;
      split = blank.split;
      blank = blank.blank;
    }
