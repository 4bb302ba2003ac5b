-- The sections of a bundle have its lines, with their numbers.
use Rattle.std.proofs.Common.{◌≡◌, ℕ, ◌+◌, Bool, true, false, List, [], ◌∷◌, ◌++◌, length, drop, Ok}
use Rattle.std.proofs.Common.{refl, sym, ap, subst, ◌∙◌, arith, append_assoc, length-append}
use Rattle.std.specs.Prelude.{All, slice_get, count_by}
use Rattle.std.specs.List.{slice_split, onto_first}
use Rattle.std.proofs.lemmas.List.{append-nil}
use Rattle.std.proofs.lemmas.List.Elements.{All-nil, All-cons, All-drop}
use Rattle.std.proofs.lemmas.List.Splits.{slice_split-cons_yes, slice_split-cons_no}
use Rattle.texts.specs.Reading.{some_or}
use Rattle.bundles.specs.declared.fault.BundleFault.TheVariants.{UnknownCommand}
use Rattle.bundles.specs.Bundles.{Line, Section, Bundle, command_of, headers_of, starts_section}
use Rattle.bundles.specs.Bundles.{first_unexpected, numbered, sections_of, bundle_of}
use Rattle.bundles.specs.SectionLines.{StandsIn, SectionsStandInBundles, LastSectionsEndBundles}
use Rattle.bundles.proofs.Readings.{bind_ok}
use Rattle.bundles.proofs.WellFormedBundles.{steps}

-- ---- parts with a line between each two

abbrev Joins : List (List Line) → List Line → Type 0
Joins [] lines = ⊥
Joins (part ∷ []) lines = lines ≡ part
Joins (part ∷ next ∷ later) lines =
    (header : Line) × (rest : List Line) × (lines ≡ part ++ header ∷ rest)
    × Joins (next ∷ later) rest

header_joins : (x : Line) (xs : List Line) (parts : List (List Line)) → Joins parts xs
    → Joins ([] ∷ parts) (x ∷ xs)
header_joins x xs [] h = absurd h
header_joins x xs (part ∷ later) h = (x, xs, refl, h)

line_joins : (x : Line) (xs : List Line) (parts : List (List Line)) → Joins parts xs
    → Joins (onto_first x parts) (x ∷ xs)
line_joins x xs [] h = absurd h
line_joins x xs (part ∷ []) h = ap (λ (ls : List Line). x ∷ ls) h
line_joins x xs (part ∷ next ∷ later) h = (h.0, h.1, ap (λ (ls : List Line). x ∷ ls) h.2, h.3)

joins_cons : (x : Line) (xs : List Line) (b : Bool) → starts_section x ≡ b
    → Joins (slice_split starts_section xs) xs
    → Joins (slice_split starts_section (x ∷ xs)) (x ∷ xs)
joins_cons x xs true t h =
    subst (λ (ps : List (List Line)). Joins ps (x ∷ xs))
    (sym (slice_split-cons_yes starts_section x xs t))
    (header_joins x xs (slice_split starts_section xs) h)
joins_cons x xs false t h =
    subst (λ (ps : List (List Line)). Joins ps (x ∷ xs))
    (sym (slice_split-cons_no starts_section x xs t))
    (line_joins x xs (slice_split starts_section xs) h)

joins : (lines : List Line) → Joins (slice_split starts_section lines) lines
joins [] = refl
joins (x ∷ xs) = joins_cons x xs (starts_section x) refl (joins xs)

-- ---- each part stands at its number

all_stand : (parts : List (List Line)) (number : ℕ) (lines above rest : List Line)
    → lines ≡ above ++ rest → number ≡ length above + 1 → Joins parts rest
    → All (StandsIn lines) (numbered number parts)
all_stand [] number lines above rest e n h = absurd h
all_stand (part ∷ []) number lines above rest e n h =
    let here : StandsIn lines (record { first_line = number; lines = part }) = record {
      above = above;
      below = [];
      parts = e ∙ ap (λ (ls : List Line). above ++ ls) h ∙ sym (append-nil (above ++ part));
      number = n;
    } in
    All-cons (StandsIn lines) _ [] here (All-nil (StandsIn lines))
all_stand (part ∷ next ∷ later) number lines above rest e n h =
    let front : List Line = (above ++ part) ++ h.0 ∷ [] in
    let here : lines ≡ above ++ (part ++ h.0 ∷ h.1) =
    e ∙ ap (λ (ls : List Line). above ++ ls) h.2 in
    let split : above ++ (part ++ h.0 ∷ h.1) ≡ front ++ h.1 =
    sym (append_assoc (above ++ part) (h.0 ∷ []) (h.1) ∙ append_assoc above part (h.0 ∷ h.1)) in
    let size : length front ≡ length above + length part + 1 =
    length-append (above ++ part) (h.0 ∷ []) ∙ ap (λ (n : ℕ). n + 1) (length-append above part) in
    let first : StandsIn lines (record { first_line = number; lines = part }) = record {
      above = above;
      below = h.0 ∷ h.1;
      parts = here ∙ sym (append_assoc above part (h.0 ∷ h.1));
      number = n;
    } in
    All-cons (StandsIn lines) _ (numbered (number + length part + 1) (next ∷ later)) first
    (all_stand (next ∷ later) (number + length part + 1) lines front h.1 (here ∙ split)
    (omega (arith, n, size)) h.3)

-- ---- the last part ends with the lines

nothing_before : (s last : Section) (before : List Section) → s ∷ [] ≡ before ++ last ∷ []
    → s ≡ last
nothing_before s last [] e = cc
nothing_before s last (b ∷ []) e = let size : 1 ≡ 2 = ap length e in absurd (omega (arith, size))
nothing_before s last (b ∷ c ∷ before) e =
    absurd (let z : [] ≡ c ∷ before ++ last ∷ [] = ap (drop 1) e in cc)

ends : (parts : List (List Line)) (number : ℕ) (rest : List Line) (before : List Section)
    (last : Section) → Joins parts rest → numbered number parts ≡ before ++ last ∷ []
    → last.first_line + length last.lines ≡ number + length rest
ends [] number rest before last h e = absurd h
ends (part ∷ []) number rest before last h e =
    let same = nothing_before (record { first_line = number; lines = part }) last before e in
    ap (λ (s : Section). s.first_line + length s.lines) (sym same)
    ∙ ap (λ (ls : List Line). number + length ls) (sym h)
ends (part ∷ next ∷ later) number rest [] last h e =
    absurd (let z : numbered (number + length part + 1) (next ∷ later) ≡ [] = ap (drop 1) e in cc)
ends (part ∷ next ∷ later) number rest (b ∷ before) last h e =
    let below =
    ends (next ∷ later) (number + length part + 1) h.1 before last h.3 (ap (drop 1) e) in
    let size : length rest ≡ length part + length (h.0 ∷ h.1) =
    ap length h.2 ∙ length-append part (h.0 ∷ h.1) in
    omega (arith, below, size)

-- ---- the whole

record IsSplit (lines : List Line) (bundle : Bundle) : Type 0 where
  first : Line
  below : List Line
  whole : lines ≡ first ∷ below
  sections : bundle.sections ≡ sections_of below

split_of : (lines : List Line) (bundle : Bundle) → bundle_of lines ≡ Ok bundle
    → IsSplit lines bundle
unfolding bundle_of
split_of [] bundle e = absurd cc
split_of (first ∷ below) bundle e =
    let c = bind_ok (some_or (UnknownCommand) (command_of first)) _ bundle e in
    let h = steps c.0 below bundle (first_unexpected (headers_of c.0) below)
    (slice_get (headers_of c.0) (count_by starts_section below)) refl refl c.2 in
    record {
      first = first;
      below = below;
      whole = refl;
      sections = ap (λ (b : Bundle). b.sections) h.is;
    }

pub sections_stand : SectionsStandInBundles
sections_stand lines bundle e =
    let h = split_of lines bundle e in
    let all = all_stand (slice_split starts_section h.below) 2 lines
    (h.first ∷ []) h.below h.whole refl (joins h.below) in
    subst (All (StandsIn lines)) (sym h.sections)
    (All-drop (StandsIn lines) 1 (numbered 2 (slice_split starts_section h.below)) all)

one_above : (parts : List (List Line)) (rest : List Line) (before : List Section) (last : Section)
    → Joins parts rest → drop 1 (numbered 2 parts) ≡ before ++ last ∷ []
    → last.first_line + length last.lines ≡ 2 + length rest
one_above [] rest before last h e = absurd h
one_above (part ∷ later) rest before last h e =
    let top : Section = record { first_line = 2; lines = part } in
    ends (part ∷ later) 2 rest (top ∷ before) last h (ap (λ (ss : List Section). top ∷ ss) e)

pub last_ends : LastSectionsEndBundles
last_ends lines bundle before last e is =
    let h = split_of lines bundle e in
    let end = one_above (slice_split starts_section h.below) h.below before last (joins h.below)
    (sym h.sections ∙ is) in
    omega (arith, end, ap length h.whole)
