-- The lines that are read as messages are those that spell one.
use Rattle.std.proofs.Common.{◌≡◌, ℕ, true, ◌==◌, List, [], length, Some, option_and_then, Ok}
use Rattle.std.proofs.Common.{codes, refl, ap, subst, ◌∙◌}
use Rattle.texts.specs.Reading.{some_or, value_if}
use Rattle.texts.specs.Words.{words_of}
use Rattle.smbus.specs.Asked.{Asked}
use Rattle.bundles.specs.declared.fault.BundleFault.TheVariants.{BadMessage}
use Rattle.bundles.specs.declared.flaw.Key.TheVariants as keys
use Rattle.bundles.specs.declared.message.Exchange.{Exchange}
use Rattle.bundles.specs.Flaws.{bad_field, bad_word}
use Rattle.bundles.specs.Bundles.{Line}
use Rattle.bundles.specs.Fields.{value_of, bytes_of}
use Rattle.bundles.specs.AnswerWords.{past_bytes, answer_of}
use Rattle.bundles.specs.Messages.{form_of, address_of, code_of, past_form, past_address, past_code}
use Rattle.bundles.specs.Messages.{past_asked, asked_of, exchange_said, exchange_of}
use Rattle.bundles.specs.Spelled.{spelled}
use Rattle.bundles.specs.MessageLines.{MessageValues, key_values, IsMessageLine}
use Rattle.bundles.specs.MessageLines.{MessageLinesAreRead}
use Rattle.bundles.specs.MessageLines.{OtherLinesAreBad}
use Rattle.bundles.proofs.Keys.{spelled_by}
use Rattle.bundles.proofs.Readings.{bind_ok, some_ok, if_ok, done_ok, ok_is, none_left}
use Rattle.bundles.proofs.Readings.{told_ok, told_err}
use Rattle.bundles.proofs.AnswerReading.{answer_values, Answers, answers, answered_if}
use Rattle.bundles.proofs.AnswerReading.{answer_spelled}
use Rattle.bundles.proofs.AnswerReading.{taken, answer_taken}

-- ---- what the first words of a line ask

record Asks (words : List Line) (m : Asked) : Type 0 where
  form : option_and_then form_of (value_of (codes "form=") words) ≡ Some m.form
  address : option_and_then (address_of m.form) (value_of (codes "address=") (past_form words))
      ≡ Some m.address
  code : code_of m.form (value_of (codes "code=") (past_address words)) ≡ Some m.code
  out : bytes_of (value_of (codes "out=") (past_code words)) ≡ Some m.out

asks : (words : List Line) (m : Asked) → asked_of words ≡ Ok m → Asks words m
unfolding asked_of
asks words m e =
    let form = bad_field keys.Form words in
    let address = bad_field keys.Address (past_form words) in
    let code = bad_field keys.Code (past_address words) in
    let out = bad_field keys.Out (past_code words) in
    let a =
    bind_ok (some_or form (option_and_then form_of (value_of (codes "form=") words))) _ m e in
    let b = bind_ok (some_or address
    (option_and_then (address_of a.0) (value_of (codes "address=") (past_form words)))) _ m a.2 in
    let c = bind_ok (some_or code
    (code_of a.0 (value_of (codes "code=") (past_address words)))) _ m b.2 in
    let d =
    bind_ok (some_or out (bytes_of (value_of (codes "out=") (past_code words)))) _ m c.2 in
    let made : Asked = record { address = b.0; form = a.0; code = c.0; out = d.0 } in
    subst (Asks words) (ok_is made m d.2) (record {
      form = some_ok form _ a.0 a.1;
      address = some_ok address _ b.0 b.1;
      code = some_ok code _ c.0 c.1;
      out = some_ok out _ d.0 d.1;
    })

asked_if : (words : List Line) (m : Asked) → Asks words m → asked_of words ≡ Ok m
unfolding asked_of
asked_if words m a = rw (a.form, a.address, a.code, a.out) refl

-- ---- a line that is read spells its message

abbrev asked_values : List Line → MessageValues
asked_values words = record {
  form = value_of (codes "form=") words;
  address = value_of (codes "address=") (past_form words);
  code = value_of (codes "code=") (past_address words);
  out = value_of (codes "out=") (past_code words);
}

-- the words are their values, where none is left
all_spelled : (words : List Line) → past_bytes (past_asked words) ≡ []
    → words ≡ spelled (key_values (asked_values words) (answer_values (past_asked words)))
all_spelled words none =
    spelled_by (codes "form=") words _
    (spelled_by (codes "address=") (past_form words) _
    (spelled_by (codes "code=") (past_address words) _
    (spelled_by (codes "out=") (past_code words) _ (answer_spelled (past_asked words) [] none))))

line_spells : (number : ℕ) (line : Line) (exchange : Exchange)
    → exchange_of number line ≡ Ok exchange → IsMessageLine line exchange
unfolding exchange_said
line_spells number line exchange e =
    let words = words_of line in
    let rest = past_bytes (past_asked words) in
    let a = bind_ok (asked_of words) _ exchange
    (told_ok (BadMessage number) (exchange_said words) exchange e) in
    let b = bind_ok (answer_of (past_asked words)) _ exchange a.2 in
    let c = bind_ok (value_if (bad_word rest) (length rest == 0) b.0) _ exchange b.2 in
    let whole = if_ok (bad_word rest) (length rest == 0) b.0 c.0 c.1 in
    let asked = asks words a.0 a.1 in
    let answered = answers (past_asked words) c.0 (b.1 ∙ ap done_ok whole.1) in
    let made : Exchange = record { message = a.0; answer = c.0 } in
    subst (IsMessageLine line) (ok_is made exchange c.2) (record {
      asked = asked_values words;
      answered = answer_values (past_asked words);
      words = all_spelled words (none_left rest whole.0);
      form = asked.form;
      address = asked.address;
      code = asked.code;
      out = asked.out;
      says = answered.says;
      took = answered.took;
      alerts = answered.alerts;
      contender = answered.contender;
    })

-- ---- a line that spells a message is read

spelled_line : (number : ℕ) (line : Line) (exchange : Exchange) → IsMessageLine line exchange
    → exchange_of number line ≡ Ok exchange
unfolding exchange_said
spelled_line number line exchange h =
    let words = words_of line in
    let rest = past_asked words in
    let form = taken (codes "form=") h.asked.form _ words h.words refl in
    let address = taken (codes "address=") h.asked.address _ (past_form words) form.rest refl in
    let code = taken (codes "code=") h.asked.code _ (past_address words) address.rest refl in
    let out = taken (codes "out=") h.asked.out _ (past_code words) code.rest refl in
    let behind = answer_taken h.answered [] rest out.rest (record {
      holds = refl;
      refuse = refl;
      value = refl;
      bytes = refl;
    }) in
    let asked : Asks words exchange.message = record {
      form = ap (option_and_then form_of) form.value ∙ h.form;
      address = ap (option_and_then (address_of exchange.message.form)) address.value ∙ h.address;
      code = ap (code_of exchange.message.form) code.value ∙ h.code;
      out = ap bytes_of out.value ∙ h.out;
    } in
    let answered : Answers (answer_values rest) exchange.answer = record {
      says = behind.says exchange.answer h.says;
      took = h.took;
      alerts = h.alerts;
      contender = h.contender;
    } in
    let none : (length (past_bytes rest) == 0) ≡ true =
    ap (λ (ws : List Line). length ws == 0) behind.rest in
    rw (
      asked_if words exchange.message asked,
      answered_if rest exchange.answer answered,
      none,
    ) refl

pub all_lines : MessageLinesAreRead
all_lines number line exchange =
    (line_spells number line exchange, spelled_line number line exchange)

-- ---- and the others

pub other_lines : OtherLinesAreBad
other_lines number line = told_err (BadMessage number) (exchange_said (words_of line))
