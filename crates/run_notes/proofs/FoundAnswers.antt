-- The line that is told for an index says the answer of that index.
use Rattle.std.proofs.Common.{◌≡◌, ◌<◌, ◌+◌, ℕ, zero, suc, List, [], ◌∷◌, Option, Some, None}
use Rattle.std.proofs.Common.{Result, Ok, Err, length, refl, sym, ap, ◌∙◌, arith, slice_get, Bool}
use Rattle.std.proofs.Common.{option_map}
use native.Mathlib.Numerals.{unary_clauses}
use Rattle.std.specs.List.{All, enumerate_from}
use Rattle.std.proofs.lemmas.List.FromFn.{length-enumerate_from, get_or-enumerate_from}
use Rattle.std.proofs.lemmas.List.Elements.{All-filter}
use Rattle.std.proofs.lemmas.Option.{slice_get_within, get_or_from_slice_get, slice_get-get_or}
use Rattle.std.proofs.lemmas.Option.{slice_get-map}
use Rattle.std.proofs.lemmas.Bool.Decides.{nat_tests}
use Rattle.texts.specs.Reading.{◌>>=◌, some_or}
use Rattle.texts.specs.Words.{words_of}
use Rattle.smbus.specs.Answered.{Answered}
use Rattle.bundles.specs.declared.fault.BundleFault.{BundleFault}
use Rattle.bundles.specs.declared.fault.BundleFault.TheVariants.{BadAnswer}
use Rattle.bundles.specs.declared.flaw.Flaw.TheVariants.{Whole}
use Rattle.bundles.specs.AnswerLines.{answer_line_of}
use Rattle.bundles.specs.Answers.{Answers, answers_of, answer_lines_of, start_of}
use Rattle.bundles.specs.Bundles.{Line, Section}
use Rattle.bundles.specs.CountedLines.{is_counted, counted_lines}
use Rattle.run_notes.specs.AnswerLaws.{AnswersAreFound}
use Rattle.notes.specs.Lines.{line_at}

same_some : {X : Type 0} (x y : X) → Some x ≡ Some y → x ≡ y
same_some x y e = cc

-- ---- the lines stand at their numbers

abbrev Stands : List (List ℕ) → ℕ × List ℕ → Type 0
Stands lines n = line_at n.0 lines ≡ Some n.1

line_below : (lines : List (List ℕ)) (k : ℕ) → line_at (1 + k) lines ≡ slice_get lines k
line_below lines k = grind (arith, nat_tests)

all_stand : (lines : List (List ℕ)) → All (Stands lines) (enumerate_from 1 lines)
all_stand lines k d few =
    let within : k < length lines = omega (arith, few, length-enumerate_from 1 lines) in
    rw (get_or-enumerate_from 1 lines k d within)
    (line_below lines k ∙ slice_get-get_or lines k d.1 within)

abbrev counts : ℕ × List ℕ → Bool
counts n = is_counted n.1

counted_stand : (lines : List (List ℕ))
    → All (Stands lines) (counted_lines (record { first_line = 1; lines = lines }))
counted_stand lines = All-filter counts (Stands lines) (enumerate_from 1 lines) (all_stand lines)

one_stands : (lines : List (List ℕ)) (some : List (ℕ × List ℕ)) (i : ℕ) (n : ℕ × List ℕ)
    → All (Stands lines) some → slice_get some i ≡ Some n → Stands lines n
one_stands lines some i n all at =
    let is = get_or_from_slice_get some i n n at in
    rw is at (all i n (slice_get_within some i n at))

-- ---- the answers are those of the lines

record IsFirst (first : Result Answered BundleFault) (rest : Result (List Answered) BundleFault)
    (answers : List Answered) : Type 0 where
  pub answer : Answered
  pub later : List Answered
  pub first_is : first ≡ Ok answer
  pub rest_is : rest ≡ Ok later
  pub both : answers ≡ answer ∷ later

first_of : (first : Result Answered BundleFault) (rest : Result (List Answered) BundleFault)
    (answers : List Answered)
    → (first >>= λ answer. rest >>= λ later. Ok (answer ∷ later)) ≡ Ok answers
    → IsFirst first rest answers
first_of (Ok answer) (Ok later) answers e = record {
  answer = answer;
  later = later;
  first_is = refl;
  rest_is = refl;
  both = sym cc;
}
first_of (Ok answer) (Err fault) answers e = cc
first_of (Err fault) rest answers e = cc

abbrev said : Answered → Result Answered BundleFault
said a = Ok a

abbrev said_all : List Answered → Result (List Answered) BundleFault
said_all all = Ok all

abbrev whole : (List ℕ × List ℕ) → List Answered → Answers
whole s all = record { pages = s.0; protects = s.1; answers = all }

abbrev read_whole : Answers → Result Answers BundleFault
read_whole a = Ok a

same_ok : (a b : Answers) → read_whole a ≡ read_whole b → a ≡ b
same_ok a b e = cc

all_of : (s : List ℕ × List ℕ) (all : List Answered) (answers : Answers)
    → read_whole (whole s all) ≡ read_whole answers → all ≡ answers.answers
all_of s all answers e = ap (λ (a : Answers). a.answers) (same_ok (whole s all) answers e)

record IsAt (lines : List (ℕ × Line)) (index : ℕ) (answer : Answered) : Type 0 where
  pub line : ℕ × Line
  pub at : slice_get lines index ≡ Some line
  pub reads : answer_line_of line.0 line.1 ≡ Ok answer

at_index : (lines : List (ℕ × Line)) (answers : List Answered) (index : ℕ) (answer : Answered)
    → answer_lines_of lines ≡ Ok answers → slice_get answers index ≡ Some answer
    → IsAt lines index answer
unfolding answer_lines_of
at_index [] [] zero answer e at = cc
at_index [] [] (suc i) answer e at = cc
at_index [] (a ∷ answers) index answer e at = cc
at_index (line ∷ lines) answers zero answer e at =
    let f = first_of (answer_line_of line.0 line.1) (answer_lines_of lines) answers e in
    let here : Some f.answer ≡ Some answer = rw f.both at at in
    record { line = line; at = refl; reads = f.first_is ∙ ap said (same_some f.answer answer here) }
at_index (line ∷ lines) answers (suc i) answer e at =
    let f = first_of (answer_line_of line.0 line.1) (answer_lines_of lines) answers e in
    let there : slice_get f.later i ≡ Some answer = rw f.both at at in
    let found = at_index lines f.later i answer f.rest_is there in
    record { line = found.line; at = found.at; reads = found.reads }

-- ---- below the line that says how the targets start

record IsBelow (lines : List (ℕ × Line)) (answers : Answers) : Type 0 where
  pub first : ℕ × Line
  pub later : List (ℕ × Line)
  pub parts : lines ≡ first ∷ later
  pub reads : answer_lines_of later ≡ Ok answers.answers

abbrev Read : Type 0
Read = Result (List Answered) BundleFault

below_start : (fault : BundleFault) (start : Option (List ℕ × List ℕ)) (read : Read)
    (answers : Answers)
    → (some_or fault start >>= λ s. read >>= λ all.
    Ok (record { pages = s.0; protects = s.1; answers = all })) ≡ Ok answers
    → read ≡ Ok answers.answers
below_start fault None read answers e = cc
below_start fault (Some s) (Err f) answers e = cc
below_start fault (Some s) (Ok all) answers e = ap said_all (all_of s all answers e)

below : (last : ℕ) (lines : List (ℕ × Line)) (answers : Answers)
    → answers_of last lines ≡ Ok answers → IsBelow lines answers
unfolding answers_of
below last [] answers e = cc
below last (first ∷ later) answers e = record {
  first = first;
  later = later;
  parts = refl;
  reads =
      below_start (BadAnswer first.0 Whole) (start_of (words_of first.1)) (answer_lines_of later)
      answers e;
}

next_get : (first : ℕ × Line) (later : List (ℕ × Line)) (index : ℕ)
    → slice_get (first ∷ later) (index + 1) ≡ slice_get later index
next_get first later index = simp unary_clauses refl

pub found : AnswersAreFound
found lines answers index answer read at =
    let section : Section = record { first_line = 1; lines = lines } in
    let b = below (1 + length lines) (counted_lines section) answers read in
    let f = at_index b.later answers.answers index answer b.reads at in
    let here : slice_get (counted_lines section) (index + 1) ≡ Some f.line =
    ap (λ (all : List (ℕ × Line)). slice_get all (index + 1)) b.parts
    ∙ next_get b.first b.later index ∙ f.at in (
      f.line.0,
      slice_get-map (λ (n : ℕ × List ℕ). n.0) (counted_lines section) (index + 1)
          ∙ ap (option_map (λ (n : ℕ × List ℕ). n.0)) here,
      record {
        line = f.line.1;
        stands =
            one_stands lines (counted_lines section) (index + 1) f.line (counted_stand lines) here;
        reads = f.reads;
      },
    )
