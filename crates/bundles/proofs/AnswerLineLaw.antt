-- The lines that are read as answers are those that spell one.
use Rattle.std.proofs.Common.{◌≡◌, ℕ, true, false, Bool, ◌==◌, List, [], length, Option, Some, None}
use Rattle.std.proofs.Common.{Ok, option_and_then}
use Rattle.std.proofs.Common.{codes}
use Rattle.std.proofs.Common.{refl, ap, subst, ◌∙◌}
use Rattle.texts.specs.Reading.{◌>>=◌, some_or}
use Rattle.texts.specs.Words.{words_of}
use Rattle.smbus.specs.Answered.{Answered}
use Rattle.smbus.specs.Contenders.{Contender}
use Rattle.bundles.specs.declared.fault.BundleFault.TheVariants.{BadAnswer}
use Rattle.bundles.specs.declared.flaw.Key.TheVariants as keys
use Rattle.bundles.specs.Flaws.{bad_field, bad_word, told}
use Rattle.bundles.specs.ContenderWords.{contender_of, with_holds, contender_in}
use Rattle.bundles.specs.ContenderWords.{past_contender, past_cholds}
use Rattle.bundles.specs.Bundles.{Line}
use Rattle.bundles.specs.Fields.{value_of, number_of}
use Rattle.bundles.specs.AnswerWords.{past_bytes, answer_of}
use Rattle.bundles.specs.AnswerLines.{took_of, past_took, past_alerts, without_dash}
use Rattle.bundles.specs.AnswerLines.{answer_in}
use Rattle.bundles.specs.AnswerLines.{answer_line_of}
use Rattle.bundles.specs.Spelled.{spelled, AnswerValues, SaysAnswer}
use Rattle.bundles.specs.SpelledAnswers.{AnswerLineValues, key_values, IsAnswerLine}
use Rattle.bundles.specs.SpelledAnswers.{AnswerLinesAreRead}
use Rattle.bundles.specs.SpelledAnswers.{OtherLinesAreBad}
use Rattle.bundles.proofs.Keys.{spelled_by}
use Rattle.bundles.proofs.Readings.{bind_ok, some_ok, if_ok, none_left, told_ok, told_err}
use Rattle.bundles.proofs.AnswerReading.{answer_values, Answers, answers, answered_if}
use Rattle.bundles.proofs.AnswerReading.{answer_spelled}
use Rattle.bundles.proofs.AnswerReading.{taken, answer_taken}

abbrev whole : Answered → Bool → ℕ → Option Contender → Answered
whole answer took alerts contender =
    record answer { took = took; alerts = alerts; contender = contender }

-- the answer of the words that messages have too
abbrev front_of : Answered → Answered
front_of answer = whole answer false 0 None

same_said : (values : AnswerValues) (a : Answered) (took : Bool) (alerts : ℕ)
    (contender : Option Contender) → SaysAnswer values a
    → SaysAnswer values (whole a took alerts contender)
same_said values a took alerts contender s =
    record { holds = s.holds; refuse = s.refuse; value = s.value; bytes = s.bytes }

abbrev line_values : List Line → AnswerLineValues
line_values words = record {
  answer = answer_values words;
  took = value_of (codes "took=") (past_bytes words);
  alerts = value_of (codes "alerts=") (past_took words);
  contender = value_of (codes "contender=") (past_alerts words);
  cholds = value_of (codes "cholds=") (past_contender (past_alerts words));
}

-- the other controller that two words say
abbrev says_contender : Option (List ℕ) → Option (List ℕ) → Option (Option Contender)
says_contender said holds = option_and_then (λ s. with_holds s holds) (contender_of said)

-- what some words spell
record Spells (words : List Line) (answer : Answered) : Type 0 where
  values : AnswerLineValues
  spelling : words ≡ spelled (key_values values)
  says : SaysAnswer values.answer answer
  took : took_of values.took ≡ Some answer.took
  alerts : number_of values.alerts ≡ Some answer.alerts
  contender : says_contender values.contender values.cholds ≡ Some answer.contender

-- ---- what is read is what the words spell

all_spelled : (words : List Line) → past_cholds (past_alerts words) ≡ []
    → words ≡ spelled (key_values (line_values words))
all_spelled words none =
    answer_spelled words _ (spelled_by (codes "took=") (past_bytes words) _
    (spelled_by (codes "alerts=") (past_took words) _
    (spelled_by (codes "contender=") (past_alerts words) _
    (spelled_by (codes "cholds=") (past_contender (past_alerts words)) [] none))))

contender_spelled : (words : List Line) (c : Option Contender) → contender_in words ≡ Ok c
    → says_contender (value_of (codes "contender=") words)
    (value_of (codes "cholds=") (past_contender words)) ≡ Some c
unfolding contender_in
contender_spelled words c e =
    let bad = bad_field keys.Contender words in
    let late = bad_field keys.ContenderHolds (past_contender words) in
    let said = bind_ok (some_or bad (contender_of (value_of (codes "contender=") words))) _ c e in
    let whole = some_ok late _ c said.2 in
    let first = some_ok bad _ said.0 said.1 in
    rw first whole

contender_read : (words : List Line) (c : Option Contender)
    → says_contender (value_of (codes "contender=") words)
    (value_of (codes "cholds=") (past_contender words)) ≡ Some c
    → contender_in words ≡ Ok c
unfolding contender_in
contender_read words c e =
    by (contender_of (value_of (codes "contender=") words)) refl
  where
    holds : Option (List ℕ)
    holds = value_of (codes "cholds=") (past_contender words)

    by : (o : Option (Option Contender))
        → contender_of (value_of (codes "contender=") words) ≡ o
        → (some_or (bad_field keys.Contender words)
        (contender_of (value_of (codes "contender=") words))
        >>= (λ said. some_or (bad_field keys.ContenderHolds (past_contender words))
        (with_holds said holds))) ≡ Ok c
    by None is = let bad : None ≡ Some c = rw is at e in absurd cc
    by (Some said) is =
        let some : with_holds said holds ≡ Some c = rw is at e in
        rw (is, some) refl

spells : (words : List Line) (answer : Answered) → answer_in words ≡ Ok answer
    → Spells words answer
unfolding answer_in
spells words answer e =
    let took = bad_field keys.Took (past_bytes words) in
    let alerts = bad_field keys.Alerts (past_took words) in
    let a = bind_ok (answer_of words) _ answer e in
    let b =
    bind_ok (some_or took (took_of (value_of (codes "took=") (past_bytes words)))) _ answer a.2 in
    let c = bind_ok (some_or alerts (number_of (value_of (codes "alerts=") (past_took words)))) _
    answer b.2 in
    let d = bind_ok (contender_in (past_alerts words)) _ answer c.2 in
    let w = if_ok (bad_word (past_cholds (past_alerts words)))
    (length (past_cholds (past_alerts words)) == 0) (whole a.0 b.0 c.0 d.0) answer d.2 in
    subst (Spells words) w.1 (record {
      values = line_values words;
      spelling = all_spelled words (none_left (past_cholds (past_alerts words)) w.0);
      says = same_said (answer_values words) a.0 b.0 c.0 d.0 (answers words a.0 a.1).says;
      took = some_ok took _ b.0 b.1;
      alerts = some_ok alerts _ c.0 c.1;
      contender = contender_spelled (past_alerts words) d.0 d.1;
    })

-- ---- and back

reads : (words : List Line) (answer : Answered) → Spells words answer
    → answer_in words ≡ Ok answer
unfolding answer_in
reads words answer h =
    let behind = answer_taken h.values.answer _ words h.spelling (record {
      holds = refl;
      refuse = refl;
      value = refl;
      bytes = refl;
    }) in
    let took = taken (codes "took=") h.values.took _ (past_bytes words) behind.rest refl in
    let alerts = taken (codes "alerts=") h.values.alerts _ (past_took words) took.rest refl in
    let said =
    taken (codes "contender=") h.values.contender _ (past_alerts words) alerts.rest refl in
    let holds = taken (codes "cholds=") h.values.cholds [] (past_contender (past_alerts words))
    said.rest refl in
    let other = contender_read (past_alerts words) answer.contender
    (rw (said.value, holds.value) h.contender) in
    let front : Answers (answer_values words) (front_of answer) = record {
      says = same_said (answer_values words) answer false 0 None (behind.says answer h.says);
      took = refl;
      alerts = refl;
      contender = refl;
    } in
    let takes : took_of (value_of (codes "took=") (past_bytes words)) ≡ Some answer.took =
    ap took_of took.value ∙ h.took in
    let pulls : number_of (value_of (codes "alerts=") (past_took words)) ≡ Some answer.alerts =
    ap number_of alerts.value ∙ h.alerts in
    let none : (length (past_cholds (past_alerts words)) == 0) ≡ true =
    ap (λ (ws : List Line). length ws == 0) holds.rest in
    rw (
      answered_if words (front_of answer) front,
      takes,
      pulls,
      other,
      none,
    ) refl

line_spells : (number : ℕ) (line : Line) (answer : Answered)
    → answer_line_of number line ≡ Ok answer → IsAnswerLine line answer
line_spells number line answer e =
    let words = without_dash (words_of line) in
    let s = spells words answer (told_ok (BadAnswer number) (answer_in words) answer e) in
    record {
      values = s.values;
      words = s.spelling;
      says = s.says;
      took = s.took;
      alerts = s.alerts;
      contender = s.contender;
    }

spelled_line : (number : ℕ) (line : Line) (answer : Answered) → IsAnswerLine line answer
    → answer_line_of number line ≡ Ok answer
spelled_line number line answer h =
    ap (told (BadAnswer number)) (reads (without_dash (words_of line)) answer (record {
      values = h.values;
      spelling = h.words;
      says = h.says;
      took = h.took;
      alerts = h.alerts;
      contender = h.contender;
    }))

pub all_lines : AnswerLinesAreRead
all_lines number line answer = (line_spells number line answer, spelled_line number line answer)

-- ---- and the others

pub other_lines : OtherLinesAreBad
other_lines number line =
    told_err (BadAnswer number) (answer_in (without_dash (words_of line)))
