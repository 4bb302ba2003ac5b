-- What one step does to the power of rails, told from its instruction and its row.
use Rattle.std.proofs.Common.{◌≡◌, ◌∙◌, ◌⊎◌, ℕ, Bool, true, Option, Some, None, List, [], ◌∷◌}
use Rattle.std.proofs.Common.{slice_index, ap, sym, subst, refl, inl, inr, ◌%◌, ◌/◌}
use Rattle.std.specs.Prelude.{IsTrue, IsSomeAnd, ◌==◌, ◌&&◌}
use Rattle.std.proofs.lemmas.Bool.{eq-eqb, eqb-true, or_cases, or_left, or_right}
use Rattle.smbus.specs.declared.message.Form.TheVariants as form
use Rattle.smbus.specs.Asked.{Asked}
use Rattle.smbus.specs.Answered.{Answered}
use Rattle.smbus.specs.Contenders.{Contender}
use Rattle.smbus.specs.Winners.{winner, unless_won, carried}
use Rattle.pmbus_table.specs.Codes.{operation_code}
use Rattle.pmbus_table.specs.Operation.{enables}
use Rattle.board.specs.Boards.{Target, Rail, Board}
use Rattle.board.specs.Valid.{IsBoard, IsRail, IsOnPage}
use Rattle.targets.specs.States.{BusState, IsTargetAt}
use Rattle.seq_program.specs.declared.instr.Instr.{Instr}
use Rattle.seq_program.specs.declared.instr.Instr.TheVariants as instr
use Rattle.seq_program.specs.declared.instr.Written.{Written}
use Rattle.seq_program.specs.declared.instr.Written.TheVariants as written
use Rattle.seq_program.specs.Messages.{message_of}
use Rattle.seq_program.specs.Requests.{data_of, form_of}
use Rattle.seq_program.specs.Valid.{jump_in}
use Rattle.simulator.specs.Machines.{Machine, Entry}
use Rattle.simulator.specs.Reports.{selects, Selects, IsRailAt, Withdraws}
use Rattle.simulator.specs.StepDoes.{StepDoes, MessageWritesByte, MessageWritesWord}
use Rattle.simulator.specs.Steps.{IsStepOf}
use Rattle.facts.specs.domain.Rows.{Row, Admits, set_at}
use Rattle.facts.specs.domain.Sets.{Set}
use Rattle.facts.specs.duties.Duties.{may_select, touches, touches_some, is_touched}
use Rattle.program_lints.specs.Power.{TurnsOn, IsOn, WritesVoltage, HasVoltage}
use Rattle.program_lints.specs.Changes.{IsSelected, MayTurnOn, TurnsOff, SetsVoltage, is_word}
use Rattle.program_lints.specs.Changes.{IsOffAfter, HasVoltageAfter}
use Rattle.program_lints.proofs.Places.{all_at, only_one, within}
use Rattle.program_lints.proofs.Writes.{ByteWriteOf, byte_write_of, sends_write, write_message}
use Rattle.program_lints.proofs.Done.{IsCarried, away_is_done, byte_goes_out, word_goes_out}

-- a step from a row that admits the machine before it
pub record Around (b : Board) (i : Instr) (row : Row) (m : Machine) (h : List Entry) (a : Answered)
    (e : Entry) (next : Machine) : Type 0 where
  pub board : IsBoard b
  pub admits : Admits b row m h
  pub step : IsStepOf b i (message_of b i m.regs) m a e next
  pub does : StepDoes b m.bus (carried (message_of b i m.regs) a) a e

-- a page that is stored and selects a rail's touches it
touched_by : (row : Row) (i stored : ℕ) (r : Rail) → r.target ≡ i
    → IsTrue (set_at row.pages i stored) → IsTrue (selects stored r.page)
    → IsTrue (touches row i r)
touched_by row i stored r here has selected =
    both (r.target == i) (may_select (set_at row.pages i) r.page) (eq-eqb r.target i here)
    (by (or_cases (stored == r.page) (stored == 0xFF) selected))
  where
    both : (x y : Bool) → x ≡ true → y ≡ true → (x && y) ≡ true
    both x y e f = rw (e, f) refl

    pages : Set
    pages = set_at row.pages i

    by : ((stored == r.page) ≡ true) ⊎ ((stored == 0xFF) ≡ true)
        → may_select (set_at row.pages i) r.page ≡ true
    by (inl same) =
        let is : stored ≡ r.page = eqb-true stored r.page same in
        or_left (pages r.page) (pages 0xFF) (subst (λ n. pages n ≡ true) is has)
    by (inr all) =
        let is : stored ≡ 0xFF = eqb-true stored 0xFF all in
        or_right (pages r.page) (pages 0xFF) (subst (λ n. pages n ≡ true) is has)

-- a message that the wire carries was sent
record WasSent (o : Option Asked) (P : Asked → Type 0) : Type 0 where
  pub message : Asked
  pub sent : o ≡ Some message
  pub holds : P message

was_sent : (o : Option Asked) (a : Answered) (P : Asked → Type 0) → IsSomeAnd (carried o a) P
    → WasSent o P
was_sent None a P k = absurd k
was_sent (Some m) a P k = by (winner m a) k
  where
    by : (w : Option Contender) → IsSomeAnd (unless_won w m) P → WasSent (Some m) P
    by None k = record { message = m; sent = refl; holds = k }
    by (Some c) k = absurd k

-- what turns a rail on is a write of OPERATION that enables, and touches it
turns_on : (b : Board) (i : Instr) (row : Row) (m : Machine) (h : List Entry) (a : Answered)
    (e : Entry) (next : Machine) (d : ℕ) → Around b i row m h a e next → TurnsOn b e d
    → MayTurnOn b row i d
turns_on b i row m h a e next d k x = record {
  target = w.target;
  value = w.value;
  otherwise = w.otherwise;
  is = w.is ∙ ap (λ c. instr.Write w.target c (written.Byte w.value) w.otherwise)
      sent.holds.is_write.command;
  on = subst (λ v. enabled v) value x.on;
  touched = subst (λ n. IsTrue (is_touched b row n d)) (sym same) touched;
}
  where
    enabled : ℕ → Type 0
    enabled v = enables v ≡ true

    sent : WasSent (message_of b i m.regs)
        (λ m. MessageWritesByte x.target.address operation_code x.value m a)
    sent = was_sent (message_of b i m.regs) a
        (λ m. MessageWritesByte x.target.address operation_code x.value m a)
        ((k.does.operations x.rail.target x.target x.value x.at.target).0 x.written)

    w : ByteWriteOf b i sent.message
    w = byte_write_of b i m.regs sent.message sent.sent sent.holds.is_write.form

    value : x.value ≡ w.value
    value = cc (sent.holds.is_write.content, w.out)

    same : w.target ≡ x.rail.target
    same = only_one b k.board w.target x.rail.target w.device x.target w.at x.at.target
        (sym w.address ∙ sent.holds.is_write.to)

    touched : IsTrue (is_touched b row x.rail.target d)
    touched =
        let stored = slice_index m.bus.page x.rail.target in
        let has : IsTrue (set_at row.pages x.rail.target stored) =
        k.admits.pages x.rail.target (within b.targets x.rail.target x.target x.at.target) in
        let S : BusState → Type 0 = λ s. Selects b s x.rail.target d x.rail in
        let selected = subst S k.does.before x.selected in
        subst (λ (o : Option Rail). IsTrue (touches_some row x.rail.target o)) (sym x.at.rail)
        (touched_by row x.rail.target stored x.rail refl has selected.page)

-- a rail that PAGE surely selects, with its target
record SureRail (b : Board) (row : Row) (m : Machine) (i d : ℕ) : Type 0 where
  pub rail : Rail
  pub target : Target
  pub at : IsRailAt b d rail target
  pub on_target : rail.target ≡ i
  pub device : IsTargetAt b i target
  pub selected : Selects b m.bus rail.target d rail

sure_rail : (b : Board) (row : Row) (m : Machine) (h : List Entry) (i d : ℕ) → IsBoard b
    → Admits b row m h → IsSelected b row i d → SureRail b row m i d
sure_rail b row m h i d is admits s = record {
  rail = s.rail;
  target = on_page.0;
  at = record { rail = s.at; target = on_page.1.target };
  on_target = s.on_target;
  device = device;
  selected = record {
    rail = s.at;
    on_target = refl;
    page = subst (λ n. IsTrue (selects (slice_index m.bus.page n) s.rail.page)) (sym s.on_target)
        (s.pages (slice_index m.bus.page i)
        (admits.pages i (within b.targets i on_page.0 device)));
  };
}
  where
    on_page : (t : Target) × IsOnPage b s.rail t
    on_page = IsRail.on_page (all_at (IsRail b) b.rails d s.rail is.rails s.at)

    device : IsTargetAt b i on_page.0
    device = subst (λ n. IsTargetAt b n on_page.0) s.on_target on_page.1.target

-- what surely turns a rail off withdraws it
withdraws : (b : Board) (i : Instr) (row : Row) (m : Machine) (h : List Entry) (a : Answered)
    (e : Entry) (next : Machine) (d : ℕ) → Around b i row m h a e next
    → TurnsOff b row i next.place d → Withdraws b e d
withdraws b i row m h a e next d k x = (k.does.withdraws d).1 (record {
  rail = r.rail;
  target = r.target;
  at = r.at;
  selected = r.selected;
  value = x.value;
  written = subst (λ (o : Option Asked). IsSomeAnd (carried o a)
      (λ m. MessageWritesByte r.target.address operation_code x.value m a)) (sym sends)
      (subst (λ (o : Option Asked). IsSomeAnd o
      (λ m. MessageWritesByte r.target.address operation_code x.value m a)) (sym done.kept)
      (record {
        is_write = record { to = refl; form = refl; command = refl; content = refl };
        went_out = byte_goes_out r.target operation_code x.value m.regs a done.done;
      }));
  off = x.off;
})
  where
    r : SureRail b row m x.target d
    r = sure_rail b row m h x.target d k.board k.admits x.selected

    sent : Asked
    sent = write_message r.target operation_code m.regs (written.Byte x.value)

    sends : message_of b i m.regs ≡ Some sent
    sends = subst (λ (j : Instr). message_of b j m.regs ≡ Some sent) (sym x.is)
        (sends_write b x.target operation_code x.otherwise (written.Byte x.value) m.regs r.target
        r.device)

    done : IsCarried sent a
    done = away_is_done b i sent x.otherwise m a e next k.step sends
        (ap (λ (j : Instr). jump_in j) x.is) x.done

-- the two bytes of a word
record TwoBytes (value : Written) (regs : List ℕ) : Type 0 where
  pub low : ℕ
  pub high : ℕ
  pub form : form_of value ≡ form.WriteWord
  pub bytes : data_of regs value ≡ low ∷ high ∷ []

two_bytes : (value : Written) (regs : List ℕ) → IsTrue (is_word value) → TwoBytes value regs
two_bytes (written.Byte value) regs is = absurd (cc is)
two_bytes (written.Word value) regs is =
    record { low = value % 256; high = value / 256; form = refl; bytes = refl }
two_bytes (written.Register r) regs is = record {
  low = slice_index regs r % 256;
  high = slice_index regs r / 256;
  form = refl;
  bytes = refl;
}

-- what surely writes a voltage to a rail does so
writes : (b : Board) (i : Instr) (row : Row) (m : Machine) (h : List Entry) (a : Answered)
    (e : Entry) (next : Machine) (d : ℕ) → Around b i row m h a e next
    → SetsVoltage b row i next.place d → WritesVoltage b e d
writes b i row m h a e next d k x = record {
  rail = r.rail;
  target = r.target;
  at = r.at;
  selected = subst (λ (s : BusState). Selects b s r.rail.target d r.rail) (sym k.does.before)
      r.selected;
  code = x.write.code;
  voltage = x.write.voltage;
  low = two.low;
  high = two.high;
  written =
      (k.does.voltages r.rail.target r.target x.write.code two.low two.high r.at.target
      x.write.voltage).1
      (subst (λ (o : Option Asked). IsSomeAnd (carried o a) Word) (sym sends)
      (subst (λ (o : Option Asked). IsSomeAnd o Word) (sym done.kept)
      (record {
        to = refl;
        form = two.form;
        command = refl;
        content = two.bytes;
        went_out =
            word_goes_out r.target x.write.code x.write.value m.regs a x.write.word done.done;
      })));
}
  where
    r : SureRail b row m x.target d
    r = sure_rail b row m h x.target d k.board k.admits x.selected

    two : TwoBytes x.write.value m.regs
    two = two_bytes x.write.value m.regs x.write.word

    Word : Asked → Type 0
    Word m = MessageWritesWord r.target.address x.write.code two.low two.high m a

    sent : Asked
    sent = write_message r.target x.write.code m.regs x.write.value

    sends : message_of b i m.regs ≡ Some sent
    sends = subst (λ (j : Instr). message_of b j m.regs ≡ Some sent) (sym x.write.is)
        (sends_write b x.target x.write.code x.otherwise x.write.value m.regs r.target
        r.device)

    done : IsCarried sent a
    done = away_is_done b i sent x.otherwise m a e next k.step sends
        (ap (λ (j : Instr). jump_in j) x.write.is) x.done

-- what is sure of a rail after the step, where the set before it is sure of the history
pub stays_off : (b : Board) (i : Instr) (row : Row) (m : Machine) (h : List Entry) (a : Answered)
    (e : Entry) (next : Machine) (before : Set) (d : ℕ) → Around b i row m h a e next
    → (IsTrue (before d) → IsOn b h d → ⊥) → IsOffAfter b row i next.place before d
    → IsOn b (e ∷ h) d → ⊥
stays_off b i row m h a e next before d k sure after (inl on) =
    after.1 (turns_on b i row m h a e next d k on)
stays_off b i row m h a e next before d k sure after (inr on) = by after.0
  where
    by : IsTrue (before d) ⊎ TurnsOff b row i next.place d → ⊥
    by (inl off) = sure off on.1
    by (inr off) = on.0 (withdraws b i row m h a e next d k off)

pub keeps_voltage : (b : Board) (i : Instr) (row : Row) (m : Machine) (h : List Entry)
    (a : Answered) (e : Entry) (next : Machine) (before : Set) (d : ℕ)
    → Around b i row m h a e next → (IsTrue (before d) → HasVoltage b h d)
    → HasVoltageAfter b row i next.place before d → HasVoltage b (e ∷ h) d
keeps_voltage b i row m h a e next before d k sure (inl was) = inr (sure was)
keeps_voltage b i row m h a e next before d k sure (inr set) =
    inl (writes b i row m h a e next d k set)
