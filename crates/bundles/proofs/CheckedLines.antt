-- Lines of which those before the rest were looked at, and are answers.
use Rattle.std.proofs.Common.{◌≡◌, ◌≤◌, ℕ, List, [], ◌∷◌, ◌++◌, Result, Ok, Err, refl, sym}
use Rattle.std.proofs.Common.{length, subst, arith, ◌∙◌}
use Rattle.std.specs.List.{All, AllByRecursion}
use Rattle.std.specs.List.{enumerate_from}
use Rattle.std.proofs.lemmas.List.{append-nil, append_assoc, length-map}
use Rattle.std.proofs.lemmas.List.Sums.{length-filter, count_by-le-length}
use Rattle.std.proofs.lemmas.List.FromFn.{length-enumerate_from}
use Rattle.std.proofs.lemmas.List.Elements.{All-nil, All-append, All-from_recursion}
use Rattle.std.proofs.lemmas.List.Elements.{recursion_from_All}
use Rattle.std.specs.Result.{IsErrAnd}
use Rattle.texts.specs.Reading.{Fails, Gives}
use Rattle.texts.specs.declared.reading.ReadError.{ReadError}
use Rattle.texts.specs.declared.reading.ReadError.TheVariants as error
use Rattle.smbus.specs.Answered.{Answered}
use Rattle.bundles.specs.declared.fault.BundleFault.{BundleFault}
use Rattle.bundles.specs.AnswerLines.{answer_line_of}
use Rattle.bundles.specs.Answers.{IsGoodAnswer, answer_said, answers_said, answer_lines_of}
use Rattle.bundles.specs.Bundles.{Line, Section}
use Rattle.bundles.specs.CountedLines.{is_counted, counted_lines}

abbrev pub IsHeld : Answered → Type 0
IsHeld a = All (λ hold. hold ≤ 6999) a.holds

pub record AreChecked (lines rest : List (ℕ × Line)) : Type 0 where
  pub done : List (ℕ × Line)
  pub parts : lines ≡ done ++ rest
  pub good : All IsGoodAnswer done
  pub held : All (λ line. IsHeld (answer_said line)) done

pub checked_none : (lines : List (ℕ × Line)) → AreChecked lines lines
checked_none lines = record {
  done = [];
  parts = refl;
  good = All-nil IsGoodAnswer;
  held = All-nil (λ line. IsHeld (answer_said line));
}

one : (P : ℕ × Line → Type 0) (line : ℕ × Line) → P line → All P (line ∷ [])
one P line p = All-from_recursion P (line ∷ []) (p, tt)

pub checked_more : (lines rest : List (ℕ × Line)) (line : ℕ × Line) → AreChecked lines (line ∷ rest)
    → IsGoodAnswer line → IsHeld (answer_said line) → AreChecked lines rest
checked_more lines rest line c good held = record {
  done = c.done ++ line ∷ [];
  parts = c.parts ∙ sym (append_assoc c.done (line ∷ []) rest);
  good = All-append IsGoodAnswer c.done (line ∷ []) c.good (one IsGoodAnswer line good);
  held =
      All-append (λ l. IsHeld (answer_said l)) c.done (line ∷ []) c.held
      (one (λ l. IsHeld (answer_said l)) line held);
}

held_said : (lines : List (ℕ × Line)) → AllByRecursion (λ line. IsHeld (answer_said line)) lines
    → AllByRecursion IsHeld (answers_said lines)
held_said [] held = tt
held_said (line ∷ more) held = (held.0, held_said more held.1)

all_checked : (lines : List (ℕ × Line)) (c : AreChecked lines []) → lines ≡ c.done
all_checked lines c = c.parts ∙ append-nil c.done

pub all_answers : (lines : List (ℕ × Line)) → AreChecked lines [] → All IsGoodAnswer lines
all_answers lines c = subst (All IsGoodAnswer) (sym (all_checked lines c)) c.good

pub all_held : (lines : List (ℕ × Line)) → AreChecked lines []
    → All IsHeld (answers_said lines)
all_held lines c =
    subst (λ ls. All IsHeld (answers_said ls)) (sym (all_checked lines c))
    (All-from_recursion IsHeld (answers_said c.done)
    (held_said c.done (recursion_from_All (λ line. IsHeld (answer_said line)) c.done c.held)))

-- lines that all are answers are read
read_all : (lines : List (ℕ × Line)) → AllByRecursion IsGoodAnswer lines
    → answer_lines_of lines ≡ Ok (answers_said lines)
unfolding answer_lines_of
read_all [] all = refl
read_all (line ∷ more) all = rw (all.0, read_all more all.1) refl

-- and those before one that isn't don't count
read_past : (done rest : List (ℕ × Line)) (fault : BundleFault) → AllByRecursion IsGoodAnswer done
    → answer_lines_of rest ≡ Err fault → answer_lines_of (done ++ rest) ≡ Err fault
unfolding answer_lines_of
read_past [] rest fault all bad = bad
read_past (line ∷ more) rest fault all bad = rw (all.0, read_past more rest fault all.1 bad) refl

fault_first : (line : ℕ × Line) (more : List (ℕ × Line)) (fault : BundleFault)
    → answer_line_of line.0 line.1 ≡ Err fault → answer_lines_of (line ∷ more) ≡ Err fault
unfolding answer_lines_of
fault_first line more fault bad = rw bad refl

pub read_whole : (lines : List (ℕ × Line)) → All IsGoodAnswer lines
    → answer_lines_of lines ≡ Ok (answers_said lines)
read_whole lines all = read_all lines (recursion_from_All IsGoodAnswer lines all)

pub read_to_fault : (lines rest : List (ℕ × Line)) (line : ℕ × Line) (fault : BundleFault)
    → AreChecked lines (line ∷ rest) → answer_line_of line.0 line.1 ≡ Err fault
    → answer_lines_of lines ≡ Err fault
read_to_fault lines rest line fault c bad =
    subst (λ ls. answer_lines_of ls ≡ Err fault) (sym c.parts)
    (read_past c.done (line ∷ rest) fault (recursion_from_All IsGoodAnswer c.done c.good)
    (fault_first line rest fault bad))

abbrev said_ok : Answered → Result Answered BundleFault
said_ok answer = Ok answer

abbrev said_bad : BundleFault → Result Answered BundleFault
said_bad fault = Err fault

pub never_bad : (line : ℕ × Line) (fault : BundleFault) → IsGoodAnswer line
    → answer_line_of line.0 line.1 ≡ Err fault → ⊥
never_bad line fault is bad =
    let wrong : said_ok (answer_said line) ≡ said_bad fault = sym is ∙ bad in
    absurd cc

pub rest_are_answers : (lines rest : List (ℕ × Line)) (line : ℕ × Line) → lines ≡ line ∷ rest
    → All IsGoodAnswer lines → All IsGoodAnswer rest
rest_are_answers lines rest line is all =
    let each = recursion_from_All IsGoodAnswer (line ∷ rest) (subst (All IsGoodAnswer) is all) in
    All-from_recursion IsGoodAnswer rest each.1

pub nothing_left : (lines rest : List (ℕ × Line)) → rest ≡ [] → AreChecked lines rest
    → AreChecked lines []
nothing_left lines rest none c = subst (AreChecked lines) none c

pub is_answer : (line : ℕ × Line) (answer : Answered)
    → answer_line_of line.0 line.1 ≡ Ok answer → IsGoodAnswer line
is_answer line answer read = rw read refl

pub is_held : (line : ℕ × Line) (answer : Answered)
    → answer_line_of line.0 line.1 ≡ Ok answer → IsHeld answer → IsHeld (answer_said line)
is_held line answer read held = rw read held

-- a fault that is passed on
pub passed_on : {T Y : Type 0} (view : T → Y) (r : Result T (ReadError BundleFault))
    (e : ReadError BundleFault) (read : Result Y BundleFault) → IsErrAnd r (λ f. f ≡ e)
    → Fails e read → Gives view r read
passed_on view (Ok x) e read is fails = elim is [ ]
passed_on view (Err f) e read is fails = subst (λ f. Fails f read) (sym is) fails

pub fails_first : (lines rest : List (ℕ × Line)) (line : ℕ × Line) (e : ReadError BundleFault)
    → AreChecked lines (line ∷ rest) → Fails e (answer_line_of line.0 line.1)
    → Fails e (answer_lines_of lines)
fails_first lines rest line error.Memory c fails = tt
fails_first lines rest line (error.Fault fault) c fails =
    read_to_fault lines rest line fault c fails

-- no more answers than lines
pub few_answers : (s : Section) → length (answers_said (counted_lines s)) ≤ length s.lines
few_answers s =
    let numbered = enumerate_from s.first_line s.lines in
    let counts = λ (x : ℕ × Line). is_counted x.1 in
    let said = length-map (counted_lines s) answer_said in
    let counted = length-filter counts numbered in
    let few = count_by-le-length counts numbered in
    let all = length-enumerate_from s.first_line s.lines in
    omega (arith, said, counted, few, all)
