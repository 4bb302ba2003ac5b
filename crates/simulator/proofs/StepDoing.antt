-- What a step is seen to do follows from its message, its answer and the state before it.
use Rattle.std.proofs.Common.{◌≡◌, ℕ, ◌*◌, ◌≤◌, inl, inr, Bool, true, false, Some, None, List, []}
use Rattle.std.proofs.Common.{◌∷◌, ◌++◌}
use Rattle.std.proofs.Common.{length, refl, sym, ap, subst, ◌∙◌, arith}
use Rattle.std.specs.Prelude.{◌↔◌, ◌≢◌, IsTrue, All}
use Rattle.std.proofs.lemmas.List.{append-nil}
use Rattle.std.proofs.lemmas.List.Elements.{All-contains}
use Rattle.wires.specs.declared.lines.Sample.{Sample}
use Rattle.wires.specs.Events.{events_of}
use Rattle.smbus.specs.declared.message.Form.{Form}
use Rattle.smbus.specs.declared.message.Form.TheVariants as form
use Rattle.smbus.specs.Asked.{Asked}
use Rattle.smbus.specs.Answered.{Answered}
use Rattle.smbus.specs.Shown.{Shown}
use Rattle.smbus.specs.Frames.{AreFrames}
use Rattle.smbus.specs.Protocol.{HasLength}
use Rattle.smbus.specs.Contenders.{Contender, byte_to, address_byte, contender_frame}
use Rattle.smbus.specs.ContenderLaws.{IsToOneAddress}
use Rattle.smbus.specs.OneFrame.{IsOnlyFrame}
use Rattle.smbus.specs.Whole.{IsWhole}
use Rattle.smbus.specs.FirstSegment.{message_bytes, bytes_out, bytes_seen}
use Rattle.smbus.specs.MessageFrame.{ReadsNoBlock, send_byte, read_word}
use Rattle.pmbus_table.specs.Codes.{operation_code, status_word_code}
use Rattle.pmbus_table.specs.Voltage.{carries_voltage}
use Rattle.board.specs.Boards.{Target, Board}
use Rattle.board.specs.Valid.{IsBoard}
use Rattle.targets.specs.States.{BusState, IsTargetAt}
use Rattle.targets.specs.Fitting.{MayContend}
use Rattle.smbus.specs.Slots.{samples_of}
use Rattle.simulator.specs.Machines.{Entry}
use Rattle.simulator.specs.Does.{HasFrame, IsFrontOfBytes, BeginsWith, SendsByte, ReportsWord, Sent}
use Rattle.simulator.specs.Does.{Reported, DoesAsAsked}
use Rattle.simulator.specs.Reports.{write_to, WritesTo}
use Rattle.simulator.specs.StepDoes.{writes_data, MessageWrites, MessageWritesByte}
use Rattle.simulator.specs.StepDoes.{MessageWritesWord, StepDoes}
use Rattle.simulator.proofs.Addresses.{address_small}
use Rattle.simulator.proofs.NextPlaces.{at_place}
use Rattle.simulator.proofs.FrontBytes.{message_begins, front_goes_out, IsDataWrite, three_bytes}
use Rattle.simulator.proofs.FrontBytes.{address_and_code, IsPlain, plain_bytes, front_length}
use Rattle.simulator.proofs.FrontBytes.{whole_front}
use Rattle.simulator.proofs.TakenForms.{Takes, operation_form, voltage_form}

-- a message whose command takes its form, and samples that show it
record Judged (m : Asked) (a : Answered) (samples : List Sample) : Type 0 where
  pub takes : Takes m.code m.form
  pub has_length : HasLength m.form (length m.out)
  pub goes_out : IsFrontOfBytes (bytes_out m a) (message_bytes m a)
  pub begins : (bytes : List ℕ) → BeginsWith samples bytes ↔ IsFrontOfBytes bytes (bytes_out m a)
  pub sends : (address code : ℕ) → address ≤ 127
      → SendsByte samples address code ↔ Sent m a address code
  pub reports : (address word : ℕ) → address ≤ 127
      → ReportsWord samples address status_word_code word
      ↔ Reported m a address status_word_code word

-- what is written

begun_writes : (m : Asked) (a : Answered) (x y z : ℕ) (more : List ℕ)
    → IsFrontOfBytes (bytes_out m a) (message_bytes m a)
    → IsFrontOfBytes (x ∷ y ∷ z ∷ more) (bytes_out m a) → IsDataWrite m.form m.address m.code x y
begun_writes m a x y z more out o =
    let all = message_begins m a (x ∷ y ∷ z ∷ more) out o in
    three_bytes m.form m.address m.code m.out a.value a.bytes x y z (more ++ all.0) all.1

to_writes : (m : Asked) (a : Answered) (samples : List Sample) (t : Target) (code : ℕ)
    → Judged m a samples → t.address ≤ 127 → WritesTo t samples code
    → MessageWrites t.address code m a
to_writes m a samples t code j le (inl w) =
    let front = (j.begins (write_to t ∷ code ∷ w.0 ∷ [])).0 w.1 in
    let is = begun_writes m a (write_to t) code w.0 [] j.goes_out front in
    let first : 2 * m.address ≡ 2 * t.address = is.first in
    record {
      to = omega arith;
      command = is.second;
      went_out = inl (is.writes, front_length (write_to t ∷ code ∷ w.0 ∷ []) (bytes_out m a) front);
    }
to_writes m a samples t code j le (inr s) =
    let done = (j.sends t.address code le).0 s in
    record { to = done.0.to; command = done.0.command; went_out = inr (done.0.form, done.1) }

a_third : (x y : ℕ) (bytes : List ℕ) → IsFrontOfBytes (x ∷ y ∷ []) bytes → 3 ≤ length bytes
    → (z : ℕ) × IsFrontOfBytes (x ∷ y ∷ z ∷ []) bytes
a_third x y bytes o le = by o.0 o.1
  where
    by : (rest : List ℕ) → bytes ≡ x ∷ y ∷ rest → (z : ℕ) × IsFrontOfBytes (x ∷ y ∷ z ∷ []) bytes
    by [] e = let l : length bytes ≡ 2 = ap length e in absurd (omega arith)
    by (z ∷ rest) e = (z, (rest, e))

from_writes : (m : Asked) (a : Answered) (samples : List Sample) (t : Target) (code : ℕ)
    → Judged m a samples → t.address ≤ 127 → MessageWrites t.address code m a
    → WritesTo t samples code
from_writes m a samples t code j le w = elim (w.went_out) [
  | inl data_out ↦
      let two = front_goes_out m a (2 * m.address ∷ m.code ∷ []) j.goes_out
      (address_and_code m.form m.address m.code m.out a.value a.bytes data_out.0)
      (omega (arith, data_out.1)) in
      let same : 2 * m.address ∷ m.code ∷ [] ≡ write_to t ∷ code ∷ [] =
      ap (λ (n : ℕ). 2 * n ∷ m.code ∷ []) w.to ∙ ap (λ (n : ℕ). write_to t ∷ n ∷ []) w.command in
      let third = a_third (write_to t) code (bytes_out m a)
      (subst (λ (l : List ℕ). IsFrontOfBytes l (bytes_out m a)) same two) data_out.1 in
      inl (third.0, (j.begins (write_to t ∷ code ∷ third.0 ∷ [])).1 third.1)
  | inr sent ↦
      inr ((j.sends t.address code le).1
      (record { form = sent.0; to = w.to; command = w.command }, sent.1))
]

-- OPERATION and what sets a voltage

-- the message writes these data bytes to a code in this form, and all of them went out
record WritesData (f : Form) (address code : ℕ) (content : List ℕ) (m : Asked)
    (a : Answered) : Type 0 where
  pub to : m.address ≡ address
  pub form : m.form ≡ f
  pub command : m.code ≡ code
  pub content_is : m.out ≡ content
  pub went_out : length (2 * address ∷ code ∷ content) ≤ length (bytes_out m a)

-- of a command that is written in one form alone
abbrev IsOnly : Form → ℕ → Type 0
IsOnly f code = (g : Form) → IsTrue (writes_data g) → Takes code g → g ≡ f

to_data : (m : Asked) (a : Answered) (samples : List Sample) (t : Target) (f : Form) (code x : ℕ)
    (later : List ℕ) → Judged m a samples → IsPlain f → IsOnly f code
    → (HasLength f (length m.out) → length m.out ≡ length (x ∷ later))
    → BeginsWith samples (write_to t ∷ code ∷ x ∷ later)
    → WritesData f t.address code (x ∷ later) m a
to_data m a samples t f code x later j plain only long w =
    let bytes = write_to t ∷ code ∷ x ∷ later in
    let front = (j.begins bytes).0 w in
    let is = begun_writes m a (write_to t) code x later j.goes_out front in
    let first : 2 * m.address ≡ 2 * t.address = is.first in
    let takes : Takes code m.form = subst (λ (c : ℕ). Takes c m.form) is.second j.takes in
    let made : m.form ≡ f = only m.form is.writes takes in
    let all = message_begins m a bytes j.goes_out front in
    let same : 2 * m.address ∷ m.code ∷ m.out ≡ write_to t ∷ code ∷ x ∷ (later ++ all.0) =
    sym (plain_bytes f m a plain made) ∙ all.1 in
    let out : m.out ≡ x ∷ (later ++ all.0) = cc in
    record {
      to = omega arith;
      form = made;
      command = is.second;
      content_is =
          whole_front (x ∷ later) m.out (all.0, out)
          (long (subst (λ (g : Form). HasLength g (length m.out)) made j.has_length));
      went_out = front_length bytes (bytes_out m a) front;
    }

from_data : (m : Asked) (a : Answered) (samples : List Sample) (t : Target) (f : Form) (code : ℕ)
    (content : List ℕ) → Judged m a samples → IsPlain f → WritesData f t.address code content m a
    → BeginsWith samples (write_to t ∷ code ∷ content)
from_data m a samples t f code content j plain w =
    let all : message_bytes m a ≡ write_to t ∷ code ∷ content =
    plain_bytes f m a plain w.form ∙ ap (λ (n : ℕ). 2 * n ∷ m.code ∷ m.out) w.to
    ∙ ap (λ (n : ℕ). write_to t ∷ n ∷ m.out) w.command
    ∙ ap (λ (l : List ℕ). write_to t ∷ code ∷ l) w.content_is in
    (j.begins (write_to t ∷ code ∷ content)).1 (front_goes_out m a (write_to t ∷ code ∷ content)
    j.goes_out ([], all ∙ sym (append-nil (write_to t ∷ code ∷ content))) w.went_out)

abbrev WritesOperation : Target → List Sample → ℕ → Type 0
WritesOperation t samples value = BeginsWith samples (write_to t ∷ operation_code ∷ value ∷ [])

operation : (m : Asked) (a : Answered) (samples : List Sample) (t : Target) (value : ℕ)
    → Judged m a samples
    → WritesOperation t samples value ↔ MessageWritesByte t.address operation_code value m a
operation m a samples t value j = (
  λ w.
      let is = to_data m a samples t form.WriteByte operation_code value [] j
      (λ _ _ _ _ _. refl) operation_form (λ one. one) w in
      record {
        is_write =
            record { to = is.to; form = is.form; command = is.command; content = is.content_is };
        went_out = is.went_out;
      },
  λ w.
      let is = w.is_write in
      from_data m a samples t form.WriteByte operation_code (value ∷ []) j (λ _ _ _ _ _. refl)
      (record {
        to = is.to;
        form = is.form;
        command = is.command;
        content_is = is.content;
        went_out = w.went_out;
      }),
)

abbrev WritesVoltage : Target → List Sample → ℕ → ℕ → ℕ → Type 0
WritesVoltage t samples code low high =
    BeginsWith samples (write_to t ∷ code ∷ low ∷ high ∷ [])

voltage : (m : Asked) (a : Answered) (samples : List Sample) (t : Target) (code low high : ℕ)
    → Judged m a samples → IsTrue (carries_voltage code)
    → WritesVoltage t samples code low high ↔ MessageWritesWord t.address code low high m a
voltage m a samples t code low high j sets = (
  λ w.
      let is = to_data m a samples t form.WriteWord code low (high ∷ []) j
      (λ _ _ _ _ _. refl) (voltage_form code sets) (λ two. two) w in
      record {
        to = is.to;
        form = is.form;
        command = is.command;
        content = is.content_is;
        went_out = is.went_out;
      },
  λ w. from_data m a samples t form.WriteWord code (low ∷ high ∷ []) j
      (λ _ _ _ _ _. refl) (record {
        to = w.to;
        form = w.form;
        command = w.command;
        content_is = w.content;
        went_out = w.went_out;
      }),
)

-- the step of a message

does_message : (b : Board) (m : Asked) (a : Answered) (e : Entry) → IsBoard b → Judged m a e.samples
    → StepDoes b e.before (Some m) a e
does_message b m a e is j = record {
  before = refl;
  writes = λ i t code at. (
    λ w. to_writes m a e.samples t code j (address_small b i t is at) w,
    λ w. from_writes m a e.samples t code j (address_small b i t is at) w,
  );
  operations = λ i t value at. operation m a e.samples t value j;
  voltages = λ i t code low high at sets. voltage m a e.samples t code low high j sets;
  reports = λ d word. (
    λ r. record {
      rail = r.rail;
      target = r.target;
      at = r.at;
      page = r.page;
      reports =
          (j.reports r.target.address word
          (address_small b r.rail.target r.target is r.at.target)).0 r.reports;
    },
    λ r. record {
      rail = r.rail;
      target = r.target;
      at = r.at;
      page = r.page;
      reports =
          (j.reports r.target.address word
          (address_small b r.rail.target r.target is r.at.target)).1 r.reports;
    },
  );
  withdraws = λ d. (
    λ w. record {
      rail = w.rail;
      target = w.target;
      at = w.at;
      selected = w.selected;
      value = w.value;
      written = (operation m a e.samples w.target w.value j).0 w.written;
      off = w.off;
    },
    λ w. record {
      rail = w.rail;
      target = w.target;
      at = w.at;
      selected = w.selected;
      value = w.value;
      written = (operation m a e.samples w.target w.value j).1 w.written;
      off = w.off;
    },
  );
}

-- the step of no message

-- the samples show nothing that goes to a target
record ShowNothing (b : Board) (samples : List Sample) : Type 0 where
  pub begins : (i : ℕ) (t : Target) (rest : List ℕ) → IsTargetAt b i t
      → BeginsWith samples (write_to t ∷ rest) → ⊥
  pub sends : (i : ℕ) (t : Target) (code : ℕ) → IsTargetAt b i t
      → SendsByte samples t.address code → ⊥
  pub reports : (i : ℕ) (t : Target) (code word : ℕ) → IsTargetAt b i t
      → ReportsWord samples t.address code word → ⊥

no_writes : (b : Board) (samples : List Sample) (i : ℕ) (t : Target) (code : ℕ)
    → ShowNothing b samples → IsTargetAt b i t → WritesTo t samples code → ⊥
no_writes b samples i t code none at (inl w) = none.begins i t (code ∷ w.0 ∷ []) at w.1
no_writes b samples i t code none at (inr s) = none.sends i t code at s

does_nothing : (b : Board) (a : Answered) (e : Entry) → ShowNothing b e.samples
    → StepDoes b e.before None a e
does_nothing b a e none = record {
  before = refl;
  writes = λ i t code at. (λ w. no_writes b e.samples i t code none at w, λ w. absurd w);
  operations = λ i t value at.
      (λ w. none.begins i t (operation_code ∷ value ∷ []) at w, λ w. absurd w);
  voltages = λ i t code low high at sets.
      (λ w. none.begins i t (code ∷ low ∷ high ∷ []) at w, λ w. absurd w);
  reports = λ d word. (
    λ r. absurd (none.reports r.rail.target r.target status_word_code word r.at.target r.reports),
    λ r. absurd r.reports,
  );
  withdraws = λ d. (
    λ w. absurd (none.begins w.rail.target w.target (operation_code ∷ w.value ∷ []) w.at.target
        w.written),
    λ w. absurd w.written,
  );
}

-- samples without a frame
show_no_frame : (b : Board) (samples : List Sample) → ((f : Shown) → HasFrame samples f → ⊥)
    → ShowNothing b samples
show_no_frame b samples none = record {
  begins = λ i t rest at w. none w.frame w.has;
  sends = λ i t code at s. none s.frame s.has;
  reports = λ i t code word at r. none r.frame r.has;
}

-- and those of another controller, which speaks to no target

pub no_target : (b : Board) (c : Contender) (i : ℕ) (t : Target) → IsBoard b → MayContend b c
    → IsTargetAt b i t → t.address ≢ c.address
no_target b c i t is may at =
    let apart = All-contains (λ (x : ℕ). All (λ (u : Target). u.address ≢ x) b.targets) b.foreign
    c.address is.no_target may.address in
    at_place (λ (u : Target). u.address ≢ c.address) b.targets i t apart at

first_same : (x y : ℕ) (xs ys : List ℕ) → x ∷ xs ≡ y ∷ ys → x ≡ y
first_same x y xs ys e = cc

same_address : (address own : ℕ) (is_read : Bool) → byte_to own is_read ≡ 2 * address
    → address ≡ own
same_address address own true e = absurd (omega arith)
same_address address own false e = omega arith

foreign_frame : (samples : List Sample) (c : Contender) (f : Shown)
    → IsOnlyFrame (events_of samples) (contender_frame c) → HasFrame samples f
    → f ≡ contender_frame c
foreign_frame samples c f only has =
    let same : f ∷ [] ≡ contender_frame c ∷ [] = only.only (f ∷ []) has in cc

show_foreign : (b : Board) (c : Contender) (samples : List Sample) → IsBoard b → MayContend b c
    → IsOnlyFrame (events_of samples) (contender_frame c) → IsToOneAddress c
    → ShowNothing b samples
show_foreign b c samples is may only to = record {
  begins = λ i t rest at w.
      let seen : bytes_seen (contender_frame c) ≡ write_to t ∷ (rest ++ w.front.0) =
      sym (ap bytes_seen (foreign_frame samples c w.frame only w.has)) ∙ w.front.1 in
      let byte = first_same (address_byte c) (write_to t) _ (rest ++ w.front.0) seen in
      no_target b c i t is may at (same_address t.address c.address c.read byte);
  sends = λ i t code at s.
      let whole = subst (IsWhole (send_byte t.address code) 0 [])
      (foreign_frame samples c s.frame only s.has) s.is_whole in
      no_target b c i t is may at
      (to (send_byte t.address code) 0 [] (address_small b i t is at) whole);
  reports = λ i t code word at r.
      let whole = subst (IsWhole (read_word t.address code) word [])
      (foreign_frame samples c r.frame only r.has) r.is_whole in
      no_target b c i t is may at
      (to (read_word t.address code) word [] (address_small b i t is at) whole);
}

pub foreign_does : (b : Board) (s : BusState) (c : Contender) (a : Answered) (e : Entry)
    → IsBoard b → MayContend b c → e.before ≡ s
    → IsOnlyFrame (events_of e.samples) (contender_frame c) → IsToOneAddress c
    → StepDoes b s None a e
foreign_does b s c a e is may before only to =
    subst (λ (x : BusState). StepDoes b x None a e) before
    (does_nothing b a e (show_foreign b c e.samples is may only to))

no_frame : (samples : List Sample)
    → ((frames : List Shown) → AreFrames (events_of samples) frames → frames ≡ []) → (f : Shown)
    → HasFrame samples f → ⊥
no_frame samples only f has = let bad : f ∷ [] ≡ [] = only (f ∷ []) has in cc

-- what is asked of a message's samples

judged : (m : Asked) (a : Answered) (alert : Bool) (samples : List Sample)
    → samples ≡ samples_of alert m a → Takes m.code m.form → HasLength m.form (length m.out)
    → ReadsNoBlock status_word_code m → IsFrontOfBytes (bytes_out m a) (message_bytes m a)
    → DoesAsAsked m a alert → Judged m a samples
judged m a alert samples e takes good no_block out does = record {
  takes = takes;
  has_length = good;
  goes_out = out;
  begins = λ bytes. rw e (does.begins bytes);
  sends = λ address code le. rw e (does.sends address code le);
  reports = λ address word le.
      rw e (does.reports address status_word_code word le (omega arith) no_block);
}

pub message_does : (b : Board) (s : BusState) (m : Asked) (a : Answered) (alert : Bool) (e : Entry)
    → IsBoard b → e.before ≡ s → e.samples ≡ samples_of alert m a
    → Takes m.code m.form → HasLength m.form (length m.out) → ReadsNoBlock status_word_code m
    → IsFrontOfBytes (bytes_out m a) (message_bytes m a) → DoesAsAsked m a alert
    → StepDoes b s (Some m) a e
message_does b s m a alert e is before samples takes good no_block out does =
    subst (λ (x : BusState). StepDoes b x (Some m) a e) before
    (does_message b m a e is (judged m a alert e.samples samples takes good no_block out does))

pub silence_does : (b : Board) (s : BusState) (a : Answered) (e : Entry) → e.before ≡ s
    → ((frames : List Shown) → AreFrames (events_of e.samples) frames → frames ≡ [])
    → StepDoes b s None a e
silence_does b s a e before only =
    subst (λ (x : BusState). StepDoes b x None a e) before
    (does_nothing b a e (show_no_frame b e.samples (no_frame e.samples only)))
