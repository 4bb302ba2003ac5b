-- Programs that aren't safe: a write that is protected, and a voltage over a limit.
use Rattle.std.proofs.Common.{◌≡◌, ◌≤◌, ◌<◌, ◌+◌, ◌*◌, ◌/◌, ◌%◌, ℕ, true, inr, Some}
use Rattle.std.proofs.Common.{[]}
use Rattle.std.proofs.Common.{◌∷◌, length, slice_index, IfSome, refl, ap}
use Rattle.std.proofs.Common.{subst}
use Rattle.std.proofs.Common.{arith, lit≤, lit<}
use Rattle.std.specs.List.{AllByRecursion}
use Rattle.std.proofs.lemmas.List.Elements.{All-from_recursion}
use Rattle.smbus.specs.declared.message.Form.TheVariants.{WriteWord}
use Rattle.smbus.specs.Asked.{Asked}
use Rattle.smbus.specs.FirstSegment.{bytes_out}
use Rattle.smbus.specs.MessageFrame.{send_byte}
use Rattle.pmbus_table.specs.Protect.{permits}
use Rattle.pmbus_table.specs.Voltage.{IsWithin}
use Rattle.board.specs.Boards.{Target, Board}
use Rattle.board.specs.Valid.{IsBoard}
use Rattle.targets.specs.States.{BusState, IsStart, IsTargetAt}
use Rattle.seq_program.specs.declared.instr.Instr.{Instr}
use Rattle.seq_program.specs.declared.instr.Instr.TheVariants as instr
use Rattle.seq_program.specs.declared.instr.Written.TheVariants as written
use Rattle.seq_program.specs.Requests.{low_byte_first}
use Rattle.seq_program.specs.Valid.{IsInstr, IsProgram, jump_in}
use Rattle.simulator.specs.Does.{BeginsWith}
use Rattle.simulator.specs.Machines.{start_at}
use Rattle.simulator.specs.Reports.{write_to, WritesTo}
use Rattle.simulator.specs.StepLaws.{StepsAreSeen, StartsAreReady}
use Rattle.simulator.specs.Headline.{RunsAreSafe, IsSafeWithin}
use Rattle.simulator.specs.SmallPrograms.{sending_program, ProtectedWriteIsUnsafe}
use Rattle.simulator.specs.SmallPrograms.{voltage_program, VoltageOverLimitIsUnsafe}
use Rattle.simulator.specs.SmallPrograms.{AtEachVoltage, margin_codes}
use Rattle.simulator.proofs.PlainSteps.{plain, is_done, Sends, entry_by, next_by, plain_step}
use Rattle.simulator.proofs.PlainSteps.{StepSeen, step_seen}
use Rattle.simulator.proofs.WorkedDefinitions.{done_out}
use Rattle.simulator.proofs.TakenForms.{voltage_takes_word}

-- two instructions, of which the second ends
pub two_places : (i : Instr) → IsInstr i → IfSome (jump_in i) (λ place. place < 2)
    → IsProgram (i ∷ instr.End ∷ [])
two_places i ok lands = record {
  some = lit≤ tt;
  few = lit≤ tt;
  each = All-from_recursion (λ (x : Instr). IsInstr x) (i ∷ instr.End ∷ []) (ok, (tt, tt));
  jumps =
      All-from_recursion (λ (x : Instr). IfSome (jump_in x) (λ place. place < 2))
      (i ∷ instr.End ∷ []) (lands, (tt, tt));
  last = refl;
}

-- the first step of such a program, which is safe if its runs are
pub record FirstStep (b : Board) (s : BusState) (i : Instr) (m : Asked)
    (bound : ℕ) : Type 0 where
  pub seen : StepSeen b (i ∷ instr.End ∷ []) (start_at s) i m 0
  pub safe : IsSafeWithin b (i ∷ instr.End ∷ []) bound (entry_by i m 0 (start_at s) ∷ [])
      (next_by i m 0 (start_at s))

pub first_step : StepsAreSeen → StartsAreReady → (b : Board) (s : BusState) (i : Instr)
    (m : Asked) (bound : ℕ) → IsBoard b → IsStart b s → IsProgram (i ∷ instr.End ∷ [])
    → Sends b (i ∷ instr.End ∷ []) (start_at s) i m 0 → RunsAreSafe b (i ∷ instr.End ∷ []) bound
    → FirstStep b s i m bound
first_step steps ready b s i m bound is starts program sends runs =
    let p = i ∷ instr.End ∷ [] in
    let machine = start_at s in
    let next = next_by i m 0 machine in
    record {
      seen = step_seen steps b p machine i m 0 is program (ready b p s is program starts) sends;
      safe =
          runs s (plain 0 ∷ []) (entry_by i m 0 machine ∷ []) next starts
          (next, plain_step b p machine i m 0 sends, refl);
    }

-- ---- a Send Byte

abbrev pub sending : ℕ → ℕ → Instr
sending i code = instr.Send i code 1

pub sends_code : (b : Board) (s : BusState) (i code : ℕ) (t : Target) → IsTargetAt b i t
    → Sends b (sending_program i code) (start_at s) (sending i code) (send_byte t.address code) 0
sends_code b s i code t at = record {
  running = refl;
  here = refl;
  message = rw at refl;
  leaves = record { no_alert = λ e. cc; no_page = λ e f. cc; no_protection = λ e f. cc };
  reads = record { value = refl; bytes = refl };
}

pub protected_write_is_unsafe : StepsAreSeen → StartsAreReady → ProtectedWriteIsUnsafe
protected_write_is_unsafe steps ready b s i protect t code bound is starts at stored takes guarded
    forbids runs =
    let m = send_byte t.address code in
    let first =
    first_step steps ready b s (sending i code) m bound is starts
    (two_places (sending i code) takes (lit< tt)) (sends_code b s i code t at) runs in
    let writes : WritesTo t (entry_by (sending i code) m 0 (start_at s)).samples code =
    (first.seen.does.writes i t code at).1
    (record { to = refl; command = refl; went_out = inr (refl, is_done m 0) }) in
    let permitted : permits (slice_index s.protect i) code ≡ Some true =
    first.safe.safe.0.protection i t code at writes guarded in
    let same : permits protect code ≡ Some true =
    subst (λ n. permits n code ≡ Some true) stored permitted in
    cc

-- ---- a voltage

abbrev pub volts : ℕ → ℕ → ℕ → Instr
volts i code word = instr.Write i code (written.Word word) 1

abbrev pub volts_asked : Target → ℕ → ℕ → Asked
volts_asked t code word = record {
  address = t.address;
  form = WriteWord;
  code = code;
  out = low_byte_first word;
}

sends_volts : (b : Board) (s : BusState) (i code word : ℕ) (t : Target) → IsTargetAt b i t
    → Sends b (voltage_program i code word) (start_at s) (volts i code word)
    (volts_asked t code word) 0
sends_volts b s i code word t at = record {
  running = refl;
  here = refl;
  message = rw at refl;
  leaves = record { no_alert = λ e. cc; no_page = λ e f. cc; no_protection = λ e f. cc };
  reads = record { value = refl; bytes = refl };
}

both_out : (t : Target) (code word : ℕ)
    → 4 ≤ length (bytes_out (volts_asked t code word) (plain 0))
both_out t code word =
    let m = volts_asked t code word in
    let all = ap length (done_out m (plain 0) (is_done m 0)) in
    omega (arith, all)

pub voltage_over_limit_is_unsafe : StepsAreSeen → StartsAreReady
    → AtEachVoltage VoltageOverLimitIsUnsafe
voltage_over_limit_is_unsafe steps ready code sets b s d r t word bound is starts selected at few
    over runs =
    let i = r.target in
    let m = volts_asked t code word in
    let low = word % 256 in
    let high = word / 256 in
    let small : word ≤ 65535 = omega (arith, few) in
    let first =
    first_step steps ready b s (volts i code word) m bound is starts
    (two_places (volts i code word) (voltage_takes_word code sets, small) (lit< tt))
    (sends_volts b s i code word t at) runs in
    let samples = (entry_by (volts i code word) m 0 (start_at s)).samples in
    let begins : BeginsWith samples (write_to t ∷ code ∷ low ∷ high ∷ []) =
    (first.seen.does.voltages i t code low high at sets).1 (record {
      to = refl;
      form = refl;
      command = refl;
      content = refl;
      went_out = both_out t code word;
    }) in
    let within : IsWithin (low + 256 * high) t.exponent r.limit_uv =
    first.safe.safe.0.limits i t code low high d r at sets begins selected in
    let same : low + 256 * high ≡ word = omega arith in
    over (subst (λ n. IsWithin n t.exponent r.limit_uv) same within)

pub margins_over_limit_are_unsafe : StepsAreSeen → StartsAreReady
    → AllByRecursion VoltageOverLimitIsUnsafe margin_codes
margins_over_limit_are_unsafe steps ready =
    let unsafe = voltage_over_limit_is_unsafe steps ready in
    (unsafe 0x25 refl, (unsafe 0x26 refl, tt))
