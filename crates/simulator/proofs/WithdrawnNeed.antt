-- Turning off what was reported good, and then turning on what needs it, isn't safe.
use Rattle.std.proofs.Common.{◌≡◌, ◌≤◌, ◌<◌, ◌+◌, inl, inr, ℕ, Some, None, List}
use Rattle.std.proofs.Common.{[]}
use Rattle.std.proofs.Common.{◌∷◌, slice_get, IfSome, IsTrue, refl, sym, ap, subst, ◌∙◌}
use Rattle.std.proofs.Common.{arith, lit≤, lit<}
use Rattle.std.proofs.lemmas.List.Elements.{All-from_recursion}
use Rattle.smbus.specs.declared.message.Form.TheVariants.{WriteByte, ReadWord}
use Rattle.smbus.specs.Asked.{Asked}
use Rattle.smbus.specs.MessageFrame.{read_word}
use Rattle.pmbus_table.specs.Codes.{operation_code, status_word_code}
use Rattle.pmbus_table.specs.Commands.{takes_form}
use Rattle.pmbus_table.specs.Table.{table}
use Rattle.board.specs.Boards.{Target, Rail, Board}
use Rattle.board.specs.Valid.{IsBoard, IsRail}
use Rattle.targets.specs.States.{BusState, IsTargetAt}
use Rattle.targets.specs.Fitting.{values_for}
use Rattle.targets.specs.Outcomes.{outcome_of, returned_by, ending_of}
use Rattle.targets.specs.declared.outcome.Outcome.{Outcome}
use Rattle.targets.specs.RangeLaws.{ValuesAreOfForm}
use Rattle.seq_program.specs.declared.instr.Instr.{Instr}
use Rattle.seq_program.specs.declared.instr.Instr.TheVariants as instr
use Rattle.seq_program.specs.declared.instr.Width.TheVariants as width
use Rattle.seq_program.specs.declared.instr.Written.TheVariants as written
use Rattle.seq_program.specs.Valid.{IsInstr, IsProgram, jump_in}
use Rattle.simulator.specs.declared.machine.Ending.TheVariants.{Running}
use Rattle.simulator.specs.Does.{BeginsWith}
use Rattle.simulator.specs.Machines.{Machine, Entry, start_at}
use Rattle.simulator.specs.Moves.{moved}
use Rattle.simulator.specs.Reports.{write_to, Selects, Reports, Withdraws, LastReport}
use Rattle.simulator.specs.Reports.{IsReportedGood}
use Rattle.simulator.specs.Steps.{IsRun}
use Rattle.simulator.specs.StepDoes.{StepDoes}
use Rattle.simulator.specs.StepLaws.{StepsAreSeen, StartsAreReady}
use Rattle.simulator.specs.SmallPrograms.{withdrawing_program, WithdrawnNeedIsUnsafe}
use Rattle.simulator.proofs.NextPlaces.{at_place}
use Rattle.simulator.proofs.PlainSteps.{plain, none_cut, is_done, Sends, entry_by, next_by}
use Rattle.simulator.proofs.PlainSteps.{plain_step, step_seen}
use Rattle.simulator.proofs.TakenForms.{enabling_byte}
use Rattle.simulator.proofs.WorkedDefinitions.{writes_operation}

abbrev asking : ℕ → ℕ → Instr
asking i label = instr.Read i status_word_code width.Word 0 label

abbrev pub turning : ℕ → ℕ → ℕ → Instr
turning i value next = instr.Write i operation_code (written.Byte value) next

abbrev pub turn : Target → ℕ → Asked
turn t value =
    record { address = t.address; form = WriteByte; code = operation_code; out = value ∷ [] }

pub takes_byte : IsTrue (takes_form operation_code WriteByte)
unfolding table
takes_byte = refl

takes_word : IsTrue (takes_form status_word_code ReadWord)
unfolding table
takes_word = refl

is_program : (label i j value : ℕ) → label < 4 → value ≤ 255
    → IsProgram (withdrawing_program label i j value)
is_program label i j value lands byte = record {
  some = lit≤ tt;
  few = lit≤ tt;
  each =
      All-from_recursion (λ (x : Instr). IsInstr x) (withdrawing_program label i j value)
      ((takes_word, lit< tt), ((takes_byte, lit≤ tt), ((takes_byte, byte), (tt, tt))));
  jumps =
      All-from_recursion (λ (x : Instr). IfSome (jump_in x) (λ place. place < 4))
      (withdrawing_program label i j value) (lands, (lit< tt, (lit< tt, (tt, tt))));
  last = refl;
}

-- a message that is done goes on to the next place
done_so : (m : Asked) (value : ℕ) → outcome_of (Some m) (plain value)
    ≡ ending_of None None (returned_by m.form value [])
done_so m value = rw (none_cut m value) refl

next_place : (i : Instr) (m : Asked) (value : ℕ) (machine : Machine)
    → (next_by i m value machine).place ≡ machine.place + 1
next_place i m value machine =
    ap (λ (o : Outcome). (moved i (Some m) o machine.bus machine).place) (done_so m value)

next_ended : (i : Instr) (m : Asked) (value : ℕ) (machine : Machine)
    → (next_by i m value machine).ended ≡ machine.ended
next_ended i m value machine =
    ap (λ (o : Outcome). (moved i (Some m) o machine.bus machine).ended) (done_so m value)

pub sends_turn : (b : Board) (p : List Instr) (machine : Machine) (i value next : ℕ)
    (t : Target)
    → IsTargetAt b i t → machine.ended ≡ Running
    → slice_get p machine.place ≡ Some (turning i value next)
    → Sends b p machine (turning i value next) (turn t value) 0
sends_turn b p machine i value next t at running here = record {
  running = running;
  here = here;
  message = rw at refl;
  leaves = record { no_alert = λ e. cc; no_page = λ e f. cc; no_protection = λ e f. cc };
  reads = record { value = refl; bytes = refl };
}

sends_ask : ValuesAreOfForm → (b : Board) (p : List Instr) (machine : Machine) (i label : ℕ)
    (t : Target) → IsBoard b → IsTargetAt b i t → machine.ended ≡ Running
    → slice_get p machine.place ≡ Some (asking i label)
    → Sends b p machine (asking i label) (read_word t.address status_word_code)
    (values_for b (read_word t.address status_word_code)).low
sends_ask values b p machine i label t is at running here =
    let m = read_word t.address status_word_code in
    let within = values b m is in
    record {
      running = running;
      here = here;
      message = rw at refl;
      leaves = record { no_alert = λ e. cc; no_page = λ e f. cc; no_protection = λ e f. cc };
      reads = (record { above = omega arith; below = within.nonempty }, refl);
    }

-- a Write Byte reports no rail
reports_nothing : (b : Board) (s : BusState) (e : Entry) (t : Target) (value d word : ℕ)
    → StepDoes b s (Some (turn t value)) (plain 0) e → Reports b e d word → ⊥
reports_nothing b s e t value d word does reports =
    let told = (does.reports d word).0 reports in
    let form : WriteByte ≡ ReadWord = told.reports.read.form in
    cc

-- and this one withdraws what was reported
withdraws : (b : Board) (s : BusState) (e : Entry) (n : ℕ) (need : Rail) (t : Target)
    → StepDoes b s (Some (turn t 0x00)) (plain 0) e
    → IsTargetAt b need.target t → Selects b s need.target n need
    → BeginsWith e.samples (write_to t ∷ operation_code ∷ 0x00 ∷ []) → Withdraws b e n
withdraws b s e n need t does at selected begins = record {
  rail = need;
  target = t;
  at = record { rail = selected.rail; target = at };
  selected =
      subst (λ (x : BusState). Selects b x need.target n need) (sym does.before) selected;
  value = 0x00;
  written = begins;
  off = refl;
}

not_good : (b : Board) (e : Entry) (before : List Entry) (n : ℕ)
    → ((word : ℕ) → Reports b e n word → ⊥) → Withdraws b e n → IsReportedGood b (e ∷ before) n → ⊥
not_good b e before n none off good = by good.last
  where
    by : LastReport b (e ∷ before) n good.word → ⊥
    by (inl reports) = none good.word reports
    by (inr kept) = kept.1 off

pub withdrawn_need_is_unsafe : StepsAreSeen → StartsAreReady → ValuesAreOfForm
    → WithdrawnNeedIsUnsafe
withdrawn_need_is_unsafe steps ready values b s n d value need r label bound is starts lands
    turns_on need_selected selected needs runs =
    let i = need.target in
    let j = r.target in
    let p = withdrawing_program label i j value in
    let program = is_program label i j value lands (enabling_byte value turns_on) in
    let first_rail : IsRail b need =
    at_place (IsRail b) b.rails n need is.rails need_selected.rail in
    let rail : IsRail b r = at_place (IsRail b) b.rails d r is.rails selected.rail in
    let t = first_rail.on_page.0 in
    let u = rail.on_page.0 in
    let ti : IsTargetAt b i t = first_rail.on_page.1.target in
    let uj : IsTargetAt b j u = rail.on_page.1.target in
    let ask = read_word t.address status_word_code in
    let word = (values_for b ask).low in
    let first = start_at s in
    let asks = sends_ask values b p first i label t is ti refl refl in
    let second = next_by (asking i label) ask word first in
    let at_second : second.place ≡ 1 = next_place (asking i label) ask word first in
    let offs = sends_turn b p second i 0x00 2 t ti (next_ended (asking i label) ask word first)
    (rw at_second refl) in
    let third = next_by (turning i 0x00 2) (turn t 0x00) 0 second in
    let at_third : third.place ≡ 2 =
    let more = next_place (turning i 0x00 2) (turn t 0x00) 0 second in
    omega (arith, more, at_second)
    in
    let ons = sends_turn b p third j value 3 u uj
    (next_ended (turning i 0x00 2) (turn t 0x00) 0 second
    ∙ next_ended (asking i label) ask word first)
    (rw at_third refl) in
    let fourth = next_by (turning j value 3) (turn u value) 0 third in
    let e = entry_by (asking i label) ask word first in
    let f = entry_by (turning i 0x00 2) (turn t 0x00) 0 second in
    let g = entry_by (turning j value 3) (turn u value) 0 third in
    let seen = step_seen steps b p first (asking i label) ask word is program
    (ready b p s is program starts) asks in
    let seen_off =
    step_seen steps b p second (turning i 0x00 2) (turn t 0x00) 0 is program seen.ready
    offs in
    let seen_on = step_seen steps b p third (turning j value 3) (turn u value) 0 is program
    seen_off.ready ons in
    let run : IsRun b p first (plain word ∷ plain 0 ∷ plain 0 ∷ []) (e ∷ f ∷ g ∷ []) fourth = (
      second,
      plain_step b p first (asking i label) ask word asks,
      (
        third,
        plain_step b p second (turning i 0x00 2) (turn t 0x00) 0 offs,
        (fourth, plain_step b p third (turning j value 3) (turn u value) 0 ons, refl),
      ),
    ) in
    let safe = runs s (plain word ∷ plain 0 ∷ plain 0 ∷ []) (e ∷ f ∷ g ∷ []) fourth starts run in
    let off_begins : BeginsWith f.samples (write_to t ∷ operation_code ∷ 0x00 ∷ []) =
    writes_operation b s (turn t 0x00) (plain 0) f i 0x00 t seen_off.does ti
    (record { to = refl; form = refl; command = refl; content = refl })
    (is_done (turn t 0x00) 0) in
    let on_begins : BeginsWith g.samples (write_to u ∷ operation_code ∷ value ∷ []) =
    writes_operation b s (turn u value) (plain 0) g j value u seen_on.does uj
    (record { to = refl; form = refl; command = refl; content = refl })
    (is_done (turn u value) 0) in
    let good = safe.safe.1.1.0.order j u value d r uj on_begins turns_on selected in
    let one : IsReportedGood b (f ∷ e ∷ []) n =
    subst (IsReportedGood b (f ∷ e ∷ [])) needs.2 (good needs.0 n needs.1) in
    not_good b f (e ∷ []) n
    (λ w reports. reports_nothing b s f t 0x00 n w seen_off.does reports)
    (withdraws b s f n need t seen_off.does ti need_selected off_begins) one
