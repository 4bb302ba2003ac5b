-- Programs of one message that are safe: a Send Byte, a voltage, and turning rails on.
use Rattle.std.proofs.Common.{◌≡◌, ◌≢◌, ◌==◌, ◌||◌, inr, ℕ, Bool, true, false}
use Rattle.std.proofs.Common.{find, cond, Option, Some, None, IsSome, IsSomeAnd, List, [], ◌∷◌}
use Rattle.std.proofs.Common.{option_and_then, IsTrue, refl, sym, subst}
use Rattle.std.proofs.Common.{arith}
use Rattle.std.specs.List.{list_any}
use Rattle.smbus.specs.declared.message.Form.{Form}
use Rattle.smbus.specs.declared.message.Form.TheVariants.{SendByte, WriteByte, WriteWord}
use Rattle.smbus.specs.declared.message.Form.TheVariants.{ReadByte}
use Rattle.smbus.specs.Asked.{Asked}
use Rattle.smbus.specs.Answered.{Answered}
use Rattle.smbus.specs.MessageFrame.{send_byte}
use Rattle.pmbus_table.specs.Codes.{clear_faults_code, operation_code}
use Rattle.pmbus_table.specs.Codes.{page_code, write_protect_code}
use Rattle.pmbus_table.specs.Commands.{takes_form, form_read}
use Rattle.pmbus_table.specs.Forms.{is_form}
use Rattle.pmbus_table.specs.Table.{Row, table}
use Rattle.pmbus_table.specs.Voltage.{IsWithin}
use Rattle.board.specs.Boards.{Allow, Target, Board, entry_of}
use Rattle.targets.specs.Fitting.{IsIn}
use Rattle.targets.specs.States.{BusState, IsTargetAt}
use Rattle.seq_program.specs.Requests.{low_byte_first}
use Rattle.simulator.specs.Allowed.{word_of, is_operation_value, IsInRange, WritesOnly}
use Rattle.simulator.specs.Allowed.{IsAllowedBy}
use Rattle.simulator.specs.Safe.{is_guarded}
use Rattle.simulator.specs.SmallPrograms.{ListedSendIsSafe, ClearingIsSafe}
use Rattle.simulator.specs.SmallPrograms.{VoltageWithinLimitIsSafe, EnablingWithoutNeedsIsSafe}
use Rattle.simulator.proofs.OneMessage.{KnownOfSteps, one_message_is_safe}
use Rattle.simulator.proofs.UnsafePrograms.{sending, volts, volts_asked}
use Rattle.simulator.proofs.TakenForms.{voltage_takes_word, enabling_byte, enabling_value}
use Rattle.simulator.proofs.WithdrawnNeed.{turning, turn, takes_byte}

-- no command is read by Send Byte or Write Word
not_read : (f : Form) (code : ℕ) (rows : List Row) → list_any (λ r. is_form f r.read) rows ≡ false
    → is_form f (option_and_then (λ r. r.read) (find (λ r. r.code == code) rows)) ≡ false
not_read f code [] none = refl
not_read f code (r ∷ rows) none =
    by (r.code == code) (is_form f r.read) refl none (not_read f code rows)
  where
    by : (here first : Bool) → is_form f r.read ≡ first
        → (first || list_any (λ r. is_form f r.read) rows) ≡ false
        → (list_any (λ r. is_form f r.read) rows ≡ false
        → is_form f (option_and_then (λ r. r.read) (find (λ r. r.code == code) rows)) ≡ false)
        → is_form f (option_and_then (λ r. r.read)
        (cond here (Some r) (find (λ r. r.code == code) rows))) ≡ false
    by here true is none rest = cc
    by true false is none rest = is
    by false false is none rest = rest none

send_unread : (code : ℕ) → form_read code ≡ Some SendByte → ⊥
unfolding table
send_unread code e =
    let none = not_read SendByte code table refl in
    let bad : is_form SendByte (Some SendByte) ≡ false =
    subst (λ (o : Option Form). is_form SendByte o ≡ false) e none in
    cc

word_unread : (code : ℕ) → form_read code ≡ Some WriteWord → ⊥
unfolding table
word_unread code e =
    let none = not_read WriteWord code table refl in
    let bad : is_form WriteWord (Some WriteWord) ≡ false =
    subst (λ (o : Option Form). is_form WriteWord o ≡ false) e none in
    cc

operation_unread : form_read operation_code ≡ Some WriteByte → ⊥
unfolding table
operation_unread e = let two : Some ReadByte ≡ Some WriteByte = e in cc

-- a message that its target has an entry for is allowed, unless it reads by its code
allowed : (b : Board) (s : BusState) (i : ℕ) (t : Target) (m : Asked) (a : Answered)
    → IsTargetAt b i t → m.address ≡ t.address
    → IsSomeAnd (entry_of m.form m.code t.allow) (λ e. IsInRange m.form e m a)
    → (m.form ≡ WriteByte → m.code ≢ page_code) → (m.form ≡ WriteByte → m.code ≢ write_protect_code)
    → WritesOnly operation_code is_operation_value m → (form_read m.code ≡ Some m.form → ⊥)
    → IsAllowedBy b s m a
allowed b s i t m a at to listed no_page no_protection operations unread =
    by (entry_of m.form m.code t.allow) refl listed
  where
    by : (entry : Option Allow) → entry_of m.form m.code t.allow ≡ entry
        → IsSomeAnd entry (λ e. IsInRange m.form e m a) → IsAllowedBy b s m a
    by None e in_range = absurd in_range
    by (Some entry) e in_range = inr (
      i,
      t,
      at,
      record {
        to = to;
        entry = entry;
        listed = e;
        in_range = in_range;
        pages = λ f c. absurd (no_page f c);
        protections = λ f c. absurd (no_protection f c);
        operations = operations;
        one_page = λ paged read. absurd (unread read);
      },
    )

-- an entry that is there, with no values to keep to
any_value : (entry : Option Allow) → IsSome entry → IsSomeAnd entry (λ e. Unit {0})
any_value None some = cc
any_value (Some entry) some = tt

pub listed_send_is_safe : KnownOfSteps → ListedSendIsSafe
listed_send_is_safe known b i t code is at takes some permit =
    let m = send_byte t.address code in
    one_message_is_safe known b (sending i code) i t m 19 (record {
      is = is;
      at = at;
      is_instr = takes;
      goes_on = refl;
      asks = λ s. rw at refl;
      to = refl;
      counts = tt;
      long = λ read. refl;
      allowed = λ s a starts fits.
          allowed b s i t m a at refl (any_value (entry_of SendByte code t.allow) some)
          (λ f. cc) (λ f. cc) (λ f. cc) (send_unread code);
      permitted = permit;
      within = λ s d r starts form. cc;
      needless = λ s d r starts form. cc;
    })

takes_clear : IsTrue (takes_form clear_faults_code SendByte)
unfolding table
takes_clear = refl

pub clearing_is_safe : KnownOfSteps → ClearingIsSafe
clearing_is_safe known b i t is at some =
    listed_send_is_safe known b i t clear_faults_code is at takes_clear some (λ s starts guarded.
    let bad : is_guarded clear_faults_code ≡ true = guarded in cc)

pub voltage_within_limit_is_safe : KnownOfSteps → VoltageWithinLimitIsSafe
voltage_within_limit_is_safe known b i t code word is at sets few lists permit within =
    let m = volts_asked t code word in
    let same : word_of (low_byte_first word) ≡ word = omega arith in
    one_message_is_safe known b (volts i code word) i t m 37 (record {
      is = is;
      at = at;
      is_instr = (voltage_takes_word code sets, omega (arith, few));
      goes_on = refl;
      asks = λ s. rw at refl;
      to = refl;
      counts = tt;
      long = λ read. refl;
      allowed = λ s a starts fits.
          allowed b s i t m a at refl
          (subst (λ n. IsSomeAnd (entry_of WriteWord code t.allow)
          (λ e. IsIn e.values n)) (sym same) lists)
          (λ f. cc) (λ f. cc) (λ f. cc) (word_unread code);
      permitted = permit;
      within = λ s d r starts form is_voltage selected.
          subst (λ n. IsWithin n t.exponent r.limit_uv) (sym same) (within s d r starts selected);
      needless = λ s d r starts form. cc;
    })

pub enabling_without_needs_is_safe : KnownOfSteps → EnablingWithoutNeedsIsSafe
enabling_without_needs_is_safe known b i t value is at turns_on lists permit none =
    let m = turn t value in
    one_message_is_safe known b (turning i value 1) i t m 28 (record {
      is = is;
      at = at;
      is_instr = (takes_byte, enabling_byte value turns_on);
      goes_on = refl;
      asks = λ s. rw at refl;
      to = refl;
      counts = tt;
      long = λ read. refl;
      allowed = λ s a starts fits.
          allowed b s i t m a at refl lists (λ f. λ c. cc) (λ f. λ c. cc)
          (λ f c. enabling_value value turns_on) operation_unread;
      permitted = permit;
      within = λ s d r starts form. cc;
      needless = λ s d r starts form code on selected. none s d r starts selected;
    })
