-- A bundle with exactly the sections of its command is read.
use Rattle.std.proofs.Common.{◌≡◌, ℕ, zero, suc, ◌+◌, Bool, true, false, not, ◌||◌, nat_lt, List}
use Rattle.std.proofs.Common.{[], ◌∷◌, ◌++◌, length, take, drop, map, filter, find, count_by, None}
use Rattle.std.proofs.Common.{Ok, refl, sym, ap, subst, ◌∙◌, arith, append_assoc, length-append}
use Rattle.std.specs.Prelude.{slice_get, ◌&&◌}
use Rattle.std.specs.List.{enumerate_from, slice_split, onto_first, list_all}
use Rattle.std.proofs.lemmas.List.{length-map}
use Rattle.std.proofs.lemmas.List.Sums.{length-filter}
use Rattle.std.proofs.lemmas.List.Splits.{slice_split-cons_no, length-slice_split}
use Rattle.std.proofs.lemmas.Option.{slice_get_past}
use Rattle.std.proofs.lemmas.Bool.{lt-ltb}
use Rattle.std.proofs.lemmas.Slice.Eq.{bytes_eq-Decides}
use Rattle.bundles.specs.declared.command.Command.{Command}
use Rattle.bundles.specs.declared.command.Header.{Header}
use Rattle.bundles.specs.Bundles.{Line, Section, headers_of, starts_section, is_blank, is_header}
use Rattle.bundles.specs.Bundles.{belongs, header_text, is_unexpected, first_unexpected, numbered}
use Rattle.bundles.specs.Bundles.{sections_of, bundle_below}
use Rattle.bundles.specs.WellFormed.{WellFormedBundlesAreRead}
use Rattle.bundles.proofs.WellFormedBundles.{AllBelong, front_of, seen, seen_header, seen_other}

-- ---- each line belongs

pub record IsNext (headers : List Header) (place : ℕ) (line : Line)
    (later : List Line) : Type 0 where
  pub is : is_header (slice_get headers place) line ≡ true
  pub rest : later ≡ map header_text (drop (suc place) headers)

next_header : (headers : List Header) (place : ℕ) (line : Line) (later : List Line)
    → line ∷ later ≡ map header_text (drop place headers) → IsNext headers place line later
next_header [] zero line later e = absurd (cc)
next_header [] (suc place) line later e = absurd (cc)
next_header (header ∷ headers) zero line later e =
    let same : line ≡ header_text header = cc in
    record { is = (bytes_eq-Decides line (header_text header)).1 same; rest = cc }
next_header (header ∷ headers) (suc place) line later e =
    let h = next_header headers place line later e in
    record { is = h.is; rest = h.rest }

-- the lines above the first header are blank
abbrev IsBlankFront : List Line → Type 0
IsBlankFront below = (front : List Line) (parts : List (List Line))
    → slice_split starts_section below ≡ front ∷ parts → list_all is_blank front ≡ true

either : (a b : Bool) → b ≡ true → (a || b) ≡ true
either true b t = refl
either false b t = t

blank_or_below : (line : Line) (n : ℕ) → (n ≡ 0 → is_blank line ≡ true)
    → (is_blank line || nat_lt 0 n) ≡ true
blank_or_below line zero h = rw (h refl)
blank_or_below line (suc n) h =
    either (is_blank line) (nat_lt 0 (suc n)) (lt-ltb 0 (suc n) (omega arith))

both : (a b : Bool) → (a && b) ≡ true → (a ≡ true) × (b ≡ true)
both true b e = (refl, e)
both false b e = absurd (cc)

blank_front_of : (line : Line) (below front : List Line) (parts : List (List Line))
    → starts_section line ≡ false → IsBlankFront (line ∷ below)
    → slice_split starts_section below ≡ front ∷ parts
    → (is_blank line ≡ true) × (list_all is_blank front ≡ true)
blank_front_of line below front parts t blank split =
    both (is_blank line) (list_all is_blank front) (blank (line ∷ front) parts
    (slice_split-cons_no starts_section line below t ∙ ap (onto_first line) split))

pub record HasParts (below : List Line) : Type 0 where
  pub front : List Line
  pub parts : List (List Line)
  pub split : slice_split starts_section below ≡ front ∷ parts

parts_are : (below : List Line) (parts : List (List Line))
    → slice_split starts_section below ≡ parts → HasParts below
parts_are below [] e = absurd (omega (arith, length-slice_split starts_section below, ap length e))
parts_are below (front ∷ parts) e = record { front = front; parts = parts; split = e }

belong_cons : (headers : List Header) (above below : List Line) (line : Line) (b : Bool)
    → starts_section line ≡ b
    → filter starts_section (line ∷ below) ≡ map header_text (drop (seen above) headers)
    → (seen above ≡ 0 → IsBlankFront (line ∷ below))
    → (filter starts_section below ≡ map header_text (drop (seen (above ++ line ∷ [])) headers)
    → (seen (above ++ line ∷ []) ≡ 0 → IsBlankFront below)
    → AllBelong headers (above ++ line ∷ []) below)
    → AllBelong headers above (line ∷ below)
belong_cons headers above below line true t e blank later =
    let first : line ∷ filter starts_section below ≡ map header_text (drop (seen above) headers) =
    rw t at e in
    let h = next_header headers (seen above) line (filter starts_section below) first in
    let more = seen_header above line t in (
      rw t h.is,
      later (h.rest ∙ ap (λ (n : ℕ). map header_text (drop n headers)) (sym more))
          (λ none. absurd (omega (arith, more, none))),
    )
belong_cons headers above below line false t e blank later =
    let same = seen_other above line t in
    let split = parts_are below (slice_split starts_section below) refl in
    let rest : filter starts_section below ≡ map header_text (drop (seen above) headers) =
    rw t at e in (
      rw t (blank_or_below line (seen above) (λ none.
          (blank_front_of line below split.front split.parts t (blank none) split.split).0)),
      later (rest ∙ ap (λ (n : ℕ). map header_text (drop n headers)) (sym same))
          (λ none front parts is.
          (blank_front_of line below front parts t (blank (sym same ∙ none)) is).1),
    )

belong_all : (headers : List Header) (above below : List Line)
    → filter starts_section below ≡ map header_text (drop (seen above) headers)
    → (seen above ≡ 0 → IsBlankFront below) → AllBelong headers above below
belong_all headers above [] e blank = tt
belong_all headers above (line ∷ below) e blank =
    belong_cons headers above below line (starts_section line) refl e blank
    (belong_all headers (above ++ line ∷ []) below)

-- ---- nothing is unexpected

skip : {X : Type 0} (p : X → Bool) (x : X) (xs : List X) → p x ≡ false → find p xs ≡ None
    → find p (x ∷ xs) ≡ None
skip p x xs e none = rw e none

none_unexpected : (headers : List Header) (lines above below : List Line) → lines ≡ above ++ below
    → AllBelong headers above below
    → find (is_unexpected headers lines) (enumerate_from (length above) below) ≡ None
none_unexpected headers lines above [] e belong = refl
none_unexpected headers lines above (line ∷ below) e belong =
    let front : take (length above) lines ≡ above =
    ap (take (length above)) e ∙ front_of above (line ∷ below) in
    let count : count_by starts_section (take (length above) lines) ≡ seen above =
    ap (count_by starts_section) front ∙ sym (length-filter starts_section above) in
    let here : is_unexpected headers lines (length above, line) ≡ false =
    ap not (ap (λ (n : ℕ). belongs headers n line) count ∙ belong.0) in
    let more : length (above ++ line ∷ []) ≡ length above + 1 = length-append above (line ∷ []) in
    let later = none_unexpected headers lines (above ++ line ∷ []) below
    (e ∙ sym (append_assoc above (line ∷ []) below)) belong.1 in
    skip (is_unexpected headers lines) (length above, line)
    (enumerate_from (length above + 1) below) here
    (subst (λ (n : ℕ). find (is_unexpected headers lines) (enumerate_from n below) ≡ None) more
    later)

-- ---- the whole

abbrev lines_in : Section → List Line
lines_in section = section.lines

lines-numbered : (number : ℕ) (parts : List (List Line))
    → map lines_in (numbered number parts) ≡ parts
lines-numbered number [] = refl
lines-numbered number (part ∷ later) =
    ap (λ (parts : List (List Line)). part ∷ parts)
    (lines-numbered (number + length part + 1) later)

reads : (command : Command) (lines : List Line) → first_unexpected (headers_of command) lines ≡ None
    → slice_get (headers_of command) (count_by starts_section lines) ≡ None
    → bundle_below command lines ≡ Ok (record { command = command; sections = sections_of lines })
unfolding bundle_below
reads command lines none past = rw (none, past)

same_front : (xs ys : List Line) (ps qs : List (List Line)) → xs ∷ ps ≡ ys ∷ qs → xs ≡ ys
same_front xs ys ps qs e = cc

pub all_read : WellFormedBundlesAreRead
all_read command lines formed =
    let blank : IsBlankFront lines = λ front parts is.
    subst (λ (xs : List Line). list_all is_blank xs ≡ true)
    (same_front formed.above front formed.parts parts (sym formed.split ∙ is)) formed.blank in
    let belong = belong_all (headers_of command) [] lines formed.headers (λ none. blank) in
    let none = none_unexpected (headers_of command) lines [] lines refl belong in
    let count : count_by starts_section lines ≡ length (headers_of command)
    =
    sym (length-filter starts_section lines) ∙ ap length formed.headers
    ∙ length-map (headers_of command) header_text in
    let past =
    slice_get_past (headers_of command) (count_by starts_section lines) (omega (arith, count)) in (
      record { command = command; sections = sections_of lines },
      reads command lines none past,
      record {
        same_command = refl;
        sections =
            ap (λ (parts : List (List Line)). map lines_in (drop 1 (numbered 2 parts))) formed.split
            ∙ lines-numbered (2 + length formed.above + 1) formed.parts;
      },
    )
