-- The bundle of a command and files is read as these.
use Rattle.std.proofs.Common.{◌≡◌, ℕ, Bool, true, List, [], ◌∷◌, ◌++◌, length, map, filter}
use Rattle.std.proofs.Common.{arith, refl, sym, ap, ◌∙◌, inl, inr, append_assoc}
use Rattle.std.specs.Prelude.{◌⊎◌, ◌==◌, All, codes}
use Rattle.std.specs.List.{slice_split, onto_first}
use Rattle.std.specs.Str.Lines.{lines, lines_of_parts, strip_carriage_return}
use Rattle.std.proofs.lemmas.Bool.{cases_Bool, eqb-true}
use Rattle.std.proofs.lemmas.List.{append-nil}
use Rattle.std.proofs.lemmas.List.Elements.{filter-append, All-head, All-tail, All-nil}
use Rattle.std.proofs.lemmas.List.Splits.{slice_split-cons_yes, slice_split-cons_no}
use Rattle.std.proofs.lemmas.List.Splits.{slice_split_none, slice_split_at}
use Rattle.bundles.specs.declared.command.Command.{Command}
use Rattle.bundles.specs.declared.command.Command.TheVariants.{Frame, Run, Wave, Check, Find}
use Rattle.bundles.specs.declared.command.Command.TheVariants.{Verify, Play, Refute, Draft}
use Rattle.bundles.specs.declared.command.Header.{Header}
use Rattle.bundles.specs.declared.command.Header.TheVariants.{Message, Board, Program, Answers}
use Rattle.bundles.specs.declared.command.Header.TheVariants.{Table, Seed, Plan}
use Rattle.bundles.specs.Bundles.{Line, starts_section, header_text, headers_of, command_text}
use Rattle.bundles.specs.Bundles.{bundle_of, bundle_below}
use Rattle.bundles.specs.Composed.{is_ended, section_text, sections_text, composed, IsPlain}
use Rattle.bundles.specs.Composed.{ComposedBundlesAreRead, IsNoHeader}
use Rattle.bundles.specs.WellFormed.{IsWellFormed}
use Rattle.bundles.proofs.ReadBundles.{all_read}

-- ---- lines of joined texts

abbrev is_feed : ℕ → Bool
is_feed b = b == 10

abbrev parts_of : List ℕ → List (List ℕ)
parts_of text = slice_split is_feed text

-- there is a first part
record HasFirst (parts : List (List ℕ)) : Type 0 where
  first : List ℕ
  later : List (List ℕ)
  is : parts ≡ first ∷ later

has_first : (text : List ℕ) → HasFirst (parts_of text)
has_first [] = record { first = []; later = []; is = refl }
has_first (x ∷ text) = elim (cases_Bool (is_feed x)) [
  | inl t ↦ record {
    first = [];
    later = parts_of text;
    is = slice_split-cons_yes is_feed x text t;
  }
  | inr t ↦ let h = has_first text in record {
    first = x ∷ h.first;
    later = h.later;
    is = slice_split-cons_no is_feed x text t ∙ ap (onto_first x) h.is;
  }
]

onto_joined : (x : ℕ) (parts more : List (List ℕ)) → HasFirst parts
    → onto_first x (parts ++ more) ≡ onto_first x parts ++ more
onto_joined x parts more h =
    ap (λ (ps : List (List ℕ)). onto_first x (ps ++ more)) h.is
    ∙ sym (ap (λ (ps : List (List ℕ)). onto_first x ps ++ more) h.is)

parts_joined : (b a : List ℕ) → parts_of (a ++ 10 ∷ b) ≡ parts_of a ++ parts_of b
parts_joined b [] = refl
parts_joined b (x ∷ a) = elim (cases_Bool (is_feed x)) [
  | inl t ↦ slice_split-cons_yes is_feed x (a ++ 10 ∷ b) t
      ∙ ap (λ (ps : List (List ℕ)). [] ∷ ps) (parts_joined b a)
      ∙ sym (ap (λ (ps : List (List ℕ)). ps ++ parts_of b) (slice_split-cons_yes is_feed x a t))
  | inr t ↦ slice_split-cons_no is_feed x (a ++ 10 ∷ b) t
      ∙ ap (onto_first x) (parts_joined b a)
      ∙ onto_joined x (parts_of a) (parts_of b) (has_first a)
      ∙ sym (ap (λ (ps : List (List ℕ)). ps ++ parts_of b) (slice_split-cons_no is_feed x a t))
]

lines_after : (first : List ℕ) (later parts : List (List ℕ))
    → lines_of_parts (parts ++ first ∷ later)
    ≡ map strip_carriage_return parts ++ lines_of_parts (first ∷ later)
lines_after first later [] = refl
lines_after first later (x ∷ []) = refl
lines_after first later (x ∷ y ∷ more) =
    ap (λ (ls : List Line). strip_carriage_return x ∷ ls) (lines_after first later (y ∷ more))

lines_behind : (a b : List ℕ)
    → lines (a ++ 10 ∷ b) ≡ map strip_carriage_return (parts_of a) ++ lines b
lines_behind a b =
    let h = has_first b in
    ap lines_of_parts (parts_joined b a)
    ∙ ap (λ (ps : List (List ℕ)). lines_of_parts (parts_of a ++ ps)) h.is
    ∙ lines_after h.first h.later (parts_of a)
    ∙ sym (ap (λ (ps : List (List ℕ)).
    map strip_carriage_return (parts_of a) ++ lines_of_parts ps) h.is)

-- a text of whole lines is empty, or ends with a line feed
ended_text : (file : List ℕ) → is_ended file ≡ true
    → (file ≡ []) ⊎ ((front : List ℕ) × (file ≡ front ++ 10 ∷ []))
ended_text [] e = inl refl
ended_text (b ∷ []) e = inr ([], ap (λ (x : ℕ). x ∷ []) (eqb-true b 10 e))
ended_text (b ∷ c ∷ later) e = elim (ended_text (c ∷ later) e) [
  | inl none ↦ absurd (cc)
  | inr h ↦ inr (b ∷ h.0, ap (λ (xs : List ℕ). b ∷ xs) h.1)
]

pub lines_joined : (file text : List ℕ) → is_ended file ≡ true
    → lines (file ++ text) ≡ lines file ++ lines text
lines_joined file text e = elim (ended_text file e) [
  | inl none ↦ ap (λ (xs : List ℕ). lines (xs ++ text)) none
      ∙ sym (ap (λ (xs : List ℕ). lines xs ++ lines text) none)
  | inr h ↦
      let front = map strip_carriage_return (parts_of h.0) in
      ap (λ (xs : List ℕ). lines (xs ++ text)) h.1
      ∙ ap lines (append_assoc h.0 (10 ∷ []) text)
      ∙ lines_behind h.0 text
      ∙ sym (ap (λ (ls : List Line). ls ++ lines text) (append-nil front))
      ∙ sym (ap (λ (ls : List Line). ls ++ lines text) (lines_behind h.0 []))
      ∙ sym (ap (λ (xs : List ℕ). lines xs ++ lines text) h.1)
]

-- ---- the lines of a bundle

header_ends : (header : Header) → is_ended (header_text header ++ codes "\n") ≡ true
header_ends Message = refl
header_ends Board = refl
header_ends Program = refl
header_ends Answers = refl
header_ends Table = refl
header_ends Seed = refl
header_ends Plan = refl

header_line : (header : Header) → lines (header_text header ++ codes "\n") ≡ header_text header ∷ []
header_line Message = refl
header_line Board = refl
header_line Program = refl
header_line Answers = refl
header_line Table = refl
header_line Seed = refl
header_line Plan = refl

header_starts : (header : Header) → starts_section (header_text header) ≡ true
header_starts Message = refl
header_starts Board = refl
header_starts Program = refl
header_starts Answers = refl
header_starts Table = refl
header_starts Seed = refl
header_starts Plan = refl

command_ends : (command : Command) → is_ended (command_text command ++ codes "\n") ≡ true
command_ends Frame = refl
command_ends Run = refl
command_ends Wave = refl
command_ends Check = refl
command_ends Find = refl
command_ends Verify = refl
command_ends Play = refl
command_ends Refute = refl
command_ends Draft = refl

command_line : (command : Command)
    → lines (command_text command ++ codes "\n") ≡ command_text command ∷ []
command_line Frame = refl
command_line Run = refl
command_line Wave = refl
command_line Check = refl
command_line Find = refl
command_line Verify = refl
command_line Play = refl
command_line Refute = refl
command_line Draft = refl

read_below : (command : Command) (below : List Line)
    → bundle_of (command_text command ∷ below) ≡ bundle_below command below
unfolding bundle_of
read_below Frame below = refl
read_below Run below = refl
read_below Wave below = refl
read_below Check below = refl
read_below Find below = refl
read_below Verify below = refl
read_below Play below = refl
read_below Refute below = refl
read_below Draft below = refl

-- the lines of each file below its header
abbrev lines_below : List Header → List (List ℕ) → List Line
lines_below [] files = []
lines_below (header ∷ headers) [] = []
lines_below (header ∷ headers) (file ∷ files) =
    header_text header ∷ (lines file ++ lines_below headers files)

section_lines : (header : Header) (file text : List ℕ) → is_ended file ≡ true
    → lines (section_text header file ++ text)
    ≡ header_text header ∷ (lines file ++ lines text)
section_lines header file text e =
    let top = header_text header ++ codes "\n" in
    ap lines (append_assoc top file text)
    ∙ lines_joined top (file ++ text) (header_ends header)
    ∙ ap (λ (ls : List Line). ls ++ lines (file ++ text)) (header_line header)
    ∙ ap (λ (ls : List Line). header_text header ∷ ls) (lines_joined file text e)

sections_lines : (headers : List Header) (files : List (List ℕ)) → All IsPlain files
    → lines (sections_text headers files) ≡ lines_below headers files
sections_lines [] files plain = refl
sections_lines (header ∷ headers) [] plain = refl
sections_lines (header ∷ headers) (file ∷ files) plain =
    section_lines header file (sections_text headers files)
    (All-head IsPlain file files plain).whole
    ∙ ap (λ (ls : List Line). header_text header ∷ (lines file ++ ls))
    (sections_lines headers files (All-tail IsPlain file files plain))

composed_lines : (command : Command) (files : List (List ℕ)) → All IsPlain files
    → lines (composed command files)
    ≡ command_text command ∷ lines_below (headers_of command) files
composed_lines command files plain =
    let text = sections_text (headers_of command) files in
    lines_joined (command_text command ++ codes "\n") text (command_ends command)
    ∙ ap (λ (ls : List Line). ls ++ lines text) (command_line command)
    ∙ ap (λ (ls : List Line). command_text command ∷ ls)
    (sections_lines (headers_of command) files plain)

-- ---- its headers and its sections

none_start : (ls : List Line) → All IsNoHeader ls
    → filter starts_section ls ≡ []
none_start [] none = refl
none_start (line ∷ ls) none =
    rw (All-head IsNoHeader line ls none) (none_start ls (All-tail IsNoHeader line ls none))

has_headers : (headers : List Header) (files : List (List ℕ)) → length files ≡ length headers
    → All IsPlain files
    → filter starts_section (lines_below headers files) ≡ map header_text headers
has_headers [] files e plain = refl
has_headers (header ∷ headers) [] e plain = absurd (omega (arith, e))
has_headers (header ∷ headers) (file ∷ files) e plain =
    let later : length files ≡ length headers = omega (arith, e) in
    let none : filter starts_section (lines file ++ lines_below headers files)
    ≡ map header_text headers
    = filter-append starts_section (lines file) (lines_below headers files)
    ∙ ap (λ (ls : List Line). ls ++ filter starts_section (lines_below headers files))
    (none_start (lines file) (All-head IsPlain file files plain).no_header)
    ∙ has_headers headers files later (All-tail IsPlain file files plain) in
    rw (header_starts header) (ap (λ (ls : List Line). header_text header ∷ ls) none)

has_sections : (headers : List Header) (files : List (List ℕ)) (above : List Line)
    → length files ≡ length headers → All IsPlain files
    → All IsNoHeader above
    → slice_split starts_section (above ++ lines_below headers files) ≡ above ∷ map lines files
has_sections [] [] above e plain none =
    ap (slice_split starts_section) (append-nil above) ∙ slice_split_none starts_section above none
has_sections [] (file ∷ files) above e plain none = absurd (omega (arith, e))
has_sections (header ∷ headers) [] above e plain none = absurd (omega (arith, e))
has_sections (header ∷ headers) (file ∷ files) above e plain none =
    slice_split_at starts_section above (header_text header)
    (lines file ++ lines_below headers files) none (header_starts header)
    ∙ ap (λ (parts : List (List Line)). above ∷ parts)
    (has_sections headers files (lines file) (omega (arith, e)) (All-tail IsPlain file files plain)
    (All-head IsPlain file files plain).no_header)

well_formed : (command : Command) (files : List (List ℕ))
    → length files ≡ length (headers_of command) → All IsPlain files
    → IsWellFormed command (lines_below (headers_of command) files)
well_formed command files e plain = record {
  headers = has_headers (headers_of command) files e plain;
  above = [];
  parts = map lines files;
  split = has_sections (headers_of command) files [] e plain (All-nil IsNoHeader);
  blank = refl;
}

pub all_composed : ComposedBundlesAreRead
unfolding well_formed
all_composed command files e plain =
    let below = lines_below (headers_of command) files in
    let read = all_read command below (well_formed command files e plain) in
    record {
      bundle = read.0;
      read = ap bundle_of (composed_lines command files plain) ∙ read_below command below ∙ read.1;
      same_command = read.2.same_command;
      sections = read.2.sections;
    }
