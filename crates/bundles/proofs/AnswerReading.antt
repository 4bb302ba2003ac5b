-- The words of an answer are read as what they spell.
use Rattle.std.proofs.Common.{◌≡◌, ℕ, true, false, List, ◌∷◌, Option, None, Ok, codes, refl, ap}
use Rattle.std.proofs.Common.{◌∙◌, subst}
use Rattle.texts.specs.Reading.{some_or}
use Rattle.smbus.specs.Answered.{Answered}
use Rattle.bundles.specs.declared.flaw.Key.TheVariants as keys
use Rattle.bundles.specs.Flaws.{bad_field}
use Rattle.bundles.specs.Bundles.{Line}
use Rattle.bundles.specs.Fields.{value_of, rest_of, refuse_of, number_of, bytes_of}
use Rattle.bundles.specs.Holds.{holds_of}
use Rattle.bundles.specs.AnswerWords.{past_holds, past_refuse, past_value, past_bytes, answer_of}
use Rattle.bundles.specs.Spelled.{KeyValues, spelled, AnswerValues, answer_key_values, SaysAnswer}
use Rattle.bundles.proofs.Keys.{is_new, spelled_by, value_spelled, rest_spelled}
use Rattle.bundles.proofs.Readings.{bind_ok, some_ok, ok_is}

-- the values of the words
abbrev pub answer_values : List Line → AnswerValues
answer_values words = record {
  holds = value_of (codes "holds=") words;
  refuse = value_of (codes "refuse=") (past_holds words);
  value = value_of (codes "value=") (past_refuse words);
  bytes = value_of (codes "bytes=") (past_value words);
}

-- ---- what is read is what the values say

pub record Answers (values : AnswerValues) (a : Answered) : Type 0 where
  pub says : SaysAnswer values a
  pub took : a.took ≡ false
  pub alerts : a.alerts ≡ 0
  pub contender : a.contender ≡ None

pub answers : (words : List Line) (m : Answered) → answer_of words ≡ Ok m
    → Answers (answer_values words) m
unfolding answer_of
answers words m e =
    let holds = bad_field keys.Holds words in
    let refuse = bad_field keys.Refuse (past_holds words) in
    let value = bad_field keys.Value (past_refuse words) in
    let bytes = bad_field keys.Bytes (past_value words) in
    let a = bind_ok (some_or holds (holds_of (value_of (codes "holds=") words))) _ m e in
    let b =
    bind_ok (some_or refuse (refuse_of (value_of (codes "refuse=") (past_holds words)))) _ m a.2 in
    let c =
    bind_ok (some_or value (number_of (value_of (codes "value=") (past_refuse words)))) _ m b.2 in
    let d =
    bind_ok (some_or bytes (bytes_of (value_of (codes "bytes=") (past_value words)))) _ m c.2 in
    let made : Answered =
    record {
      holds = a.0;
      refuse = b.0;
      value = c.0;
      bytes = d.0;
      took = false;
      alerts = 0;
      contender = None;
    } in
    let says : SaysAnswer (answer_values words) made = record {
      holds = some_ok holds _ a.0 a.1;
      refuse = some_ok refuse _ b.0 b.1;
      value = some_ok value _ c.0 c.1;
      bytes = some_ok bytes _ d.0 d.1;
    } in
    subst (Answers (answer_values words)) (ok_is made m d.2)
    (record { says = says; took = refl; alerts = refl; contender = refl })

pub answered_if : (words : List Line) (m : Answered)
    → Answers (answer_values words) m → answer_of words ≡ Ok m
unfolding answer_of
answered_if words m a =
    rw (
      a.says.holds,
      a.says.refuse,
      a.says.value,
      a.says.bytes,
      ← a.took,
      ← a.alerts,
      ← a.contender,
    ) refl

-- ---- what is spelled

-- the words are their values, with what is spelled behind them
pub answer_spelled : (words : List Line) (later : KeyValues) → past_bytes words ≡ spelled later
    → words ≡ spelled (answer_key_values (answer_values words) later)
answer_spelled words later e =
    spelled_by (codes "holds=") words _
    (spelled_by (codes "refuse=") (past_holds words) _
    (spelled_by (codes "value=") (past_refuse words) _
    (spelled_by (codes "bytes=") (past_value words) later e)))

pub record Taken (key : List ℕ) (o : Option (List ℕ)) (later : KeyValues)
    (words : List Line) : Type 0 where
  pub value : value_of key words ≡ o
  pub rest : rest_of key words ≡ spelled later

pub taken : (key : List ℕ) (o : Option (List ℕ)) (later : KeyValues) (words : List Line)
    → words ≡ spelled ((key, o) ∷ later) → is_new key later ≡ true → Taken key o later words
taken key o later words e apart = record {
  value = ap (value_of key) e ∙ value_spelled key o later apart;
  rest = ap (rest_of key) e ∙ rest_spelled key o later apart;
}

-- keys other than those of the answer
pub record AreOthers (later : KeyValues) : Type 0 where
  pub holds : is_new (codes "holds=") later ≡ true
  pub refuse : is_new (codes "refuse=") later ≡ true
  pub value : is_new (codes "value=") later ≡ true
  pub bytes : is_new (codes "bytes=") later ≡ true

pub record AnswerTaken (values : AnswerValues) (later : KeyValues)
    (words : List Line) : Type 0 where
  pub says : (a : Answered) → SaysAnswer values a → SaysAnswer (answer_values words) a
  pub rest : past_bytes words ≡ spelled later

pub answer_taken : (values : AnswerValues) (later : KeyValues) (words : List Line)
    → words ≡ spelled (answer_key_values values later) → AreOthers later
    → AnswerTaken values later words
answer_taken values later words e apart =
    let holds = taken (codes "holds=") values.holds _ words e apart.holds in
    let refuse =
    taken (codes "refuse=") values.refuse _ (past_holds words) holds.rest apart.refuse in
    let value = taken (codes "value=") values.value _ (past_refuse words) refuse.rest apart.value in
    let bytes =
    taken (codes "bytes=") values.bytes later (past_value words) value.rest apart.bytes in
    record {
      says = λ a s. record {
        holds = ap holds_of holds.value ∙ s.holds;
        refuse = ap refuse_of refuse.value ∙ s.refuse;
        value = ap number_of value.value ∙ s.value;
        bytes = ap bytes_of bytes.value ∙ s.bytes;
      };
      rest = bytes.rest;
    }
