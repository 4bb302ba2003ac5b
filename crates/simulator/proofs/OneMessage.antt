-- Every run of a program that sends one message and ends is safe, where the board and its starts
-- say so of the message.
use Rattle.std.proofs.Common.{◌≡◌, ◌≤◌, ◌<◌, ◌+◌, ◌*◌, ℕ, true, Option, Some, None}
use Rattle.std.proofs.Common.{List, [], ◌∷◌, length, slice_get, slice_index, IfSome, IsTrue}
use Rattle.std.proofs.Common.{refl, sym, ap, subst, ◌∙◌, arith, lit<}
use Rattle.std.proofs.lemmas.Bool.{lt-ltb}
use Rattle.std.proofs.lemmas.List.Elements.{All-nil}
use Rattle.smbus.specs.declared.message.Form.TheVariants.{WriteByte, WriteWord}
use Rattle.smbus.specs.Asked.{Asked}
use Rattle.smbus.specs.Answered.{Answered}
use Rattle.smbus.specs.Contenders.{Contender}
use Rattle.smbus.specs.Winners.{winner, unless_won, carried}
use Rattle.smbus.specs.Protocol.{AreGoodCounts}
use Rattle.smbus.specs.SlotCounts.{most_slots}
use Rattle.pmbus_table.specs.Codes.{operation_code}
use Rattle.pmbus_table.specs.Operation.{enables}
use Rattle.pmbus_table.specs.Protect.{permits}
use Rattle.pmbus_table.specs.Voltage.{IsWithin, carries_voltage}
use Rattle.board.specs.Boards.{Target, Rail, Board, largest_stretch}
use Rattle.board.specs.Valid.{IsBoard}
use Rattle.targets.specs.States.{BusState, IsStart, IsTargetAt}
use Rattle.targets.specs.Fitting.{Fits, FitsOver, lengths_for}
use Rattle.targets.specs.SomeAnswer.{IsMessage}
use Rattle.targets.specs.Outcomes.{outcome_of}
use Rattle.targets.specs.declared.outcome.Outcome.{Outcome}
use Rattle.targets.specs.declared.outcome.Outcome.TheVariants.{Done, NotAcknowledged, TimedOut}
use Rattle.targets.specs.declared.outcome.Outcome.TheVariants.{Lost}
use Rattle.targets.specs.PlaceLaws.{TargetsAreFound}
use Rattle.seq_program.specs.declared.instr.Instr.{Instr}
use Rattle.seq_program.specs.declared.instr.Instr.TheVariants.{End}
use Rattle.seq_program.specs.Messages.{message_of}
use Rattle.seq_program.specs.Valid.{IsInstr, IsProgram, jump_in}
use Rattle.simulator.specs.declared.machine.Ending.TheVariants.{Running, Finished}
use Rattle.simulator.specs.Machines.{Machine, Entry, start_at}
use Rattle.simulator.specs.Moves.{moved}
use Rattle.simulator.specs.Steps.{IsStepOf, IsStep, IsRun, total_ticks}
use Rattle.simulator.specs.Allowed.{word_of, IsAllowedBy}
use Rattle.simulator.specs.Reports.{Selects, IsReportedGood}
use Rattle.simulator.specs.Safe.{is_guarded, IsSafe, AreSafe}
use Rattle.simulator.specs.StepDoes.{StepDoes}
use Rattle.simulator.specs.ForeignTicks.{foreign_ticks, ticks_in_place, message_ticks}
use Rattle.simulator.specs.StepLaws.{StepsAreSeen, StartsAreReady, CarriesOver, Carries}
use Rattle.simulator.specs.EntryLaws.{IdleReadsBack}
use Rattle.simulator.specs.SafeLaws.{HasAllowedFrame, AllowedFramesAreSeen, SendsMessage}
use Rattle.simulator.specs.SafeLaws.{SafeStepsAreSafeRuns}
use Rattle.simulator.specs.Headline.{RunsAreSafe}
use Rattle.simulator.proofs.EndingProgram.{step_of, seen, safe}
use Rattle.simulator.proofs.OneTarget.{only_one}
use Rattle.simulator.proofs.UnsafePrograms.{two_places}

-- the laws on steps and runs that are used here
pub record KnownOfSteps : Type 0 where
  pub steps : StepsAreSeen
  pub ready : StartsAreReady
  pub idle : IdleReadsBack
  pub frames : AllowedFramesAreSeen
  pub runs : SafeStepsAreSafeRuns
  pub found : TargetsAreFound

-- the instruction sends this message to the target, in so many slots at most, and goes on at place
-- 1 in any case; and at every start the message is allowed, what it writes is permitted, a voltage
-- is within the limits, and what it turns on has no needs
pub record SendsSafely (b : Board) (x : Instr) (i : ℕ) (t : Target) (m : Asked)
    (slots : ℕ) : Type 0 where
  pub is : IsBoard b
  pub at : IsTargetAt b i t
  pub is_instr : IsInstr x
  pub goes_on : jump_in x ≡ Some 1
  pub asks : (s : BusState) → message_of b x (start_at s).regs ≡ Some m
  pub to : m.address ≡ t.address
  pub counts : AreGoodCounts m.form (length m.out) (lengths_for b m).low
  pub long : (read : ℕ) → most_slots m.form (length m.out) read ≡ slots
  pub allowed : (s : BusState) (a : Answered) → IsStart b s → Fits b s m a → IsAllowedBy b s m a
  pub permitted : (s : BusState) → IsStart b s → IsTrue (is_guarded m.code)
      → permits (slice_index s.protect i) m.code ≡ Some true
  pub within : (s : BusState) (d : ℕ) (r : Rail) → IsStart b s → m.form ≡ WriteWord
      → IsTrue (carries_voltage m.code) → Selects b s i d r
      → IsWithin (word_of m.out) t.exponent r.limit_uv
  pub needless : (s : BusState) (d : ℕ) (r : Rail) → IsStart b s → m.form ≡ WriteByte
      → m.code ≡ operation_code → IsTrue (enables (slice_index m.out 0)) → Selects b s i d r
      → r.needs ≡ []

program_of : (b : Board) (x : Instr) (i : ℕ) (t : Target) (m : Asked) (slots : ℕ)
    → SendsSafely b x i t m slots → IsProgram (x ∷ End ∷ [])
program_of b x i t m slots sends =
    two_places x sends.is_instr
    (subst (λ (o : Option ℕ). IfSome o (λ place. place < 2)) (sym sends.goes_on) (lit< tt))

-- its first step
record First (b : Board) (s : BusState) (m : Asked) (slots : ℕ) (a : Answered) (e : Entry)
    (next : Machine) : Type 0 where
  pub fits : FitsOver (winner m a) b s m a
  pub carries : CarriesOver (winner m a) b s m a e
  pub does : StepDoes b s (unless_won (winner m a) m) a e
  pub place : next.place ≡ 1
  pub ended : next.ended ≡ Running
  pub ticks : e.ticks ≤ message_ticks b slots

place_after : (x : Instr) (m : Asked) (s new : BusState) (o : Outcome) → jump_in x ≡ Some 1
    → (moved x (Some m) o new (start_at s)).place ≡ 1
place_after x m s new (Done value) next = refl
place_after x m s new NotAcknowledged next = rw next refl
place_after x m s new TimedOut next = rw next refl
place_after x m s new Lost next = rw next refl

ended_after : (x : Instr) (m : Asked) (s new : BusState) (o : Outcome)
    → (moved x (Some m) o new (start_at s)).ended ≡ Running
ended_after x m s new (Done value) = refl
ended_after x m s new NotAcknowledged = refl
ended_after x m s new TimedOut = refl
ended_after x m s new Lost = refl

-- its ticks, or those of the frame that stands in its place
contended : (b : Board) → 0 < b.contentions → ticks_in_place b ≡ foreign_ticks b
contended b some = rw (lt-ltb 0 b.contentions some) refl

few_over : (b : Board) (m : Asked) (slots : ℕ) (s : BusState) (a : Answered) (e : Entry)
    (w : Option Contender) → most_slots m.form (length m.out) (length a.bytes) ≡ slots
    → FitsOver w b s m a → CarriesOver w b s m a e
    → length e.samples ≤ message_ticks b slots
few_over b m slots s a e None long fits carries =
    let few = rw long at (carries.reads.few (largest_stretch b.targets) fits.holds) in
    let samples = ap length carries.samples in
    omega (arith, samples, few)
few_over b m slots s a e (Some c) long fits carries =
    let few = carries.few in
    let place = contended b carries.may_lose in
    omega (arith, few, place)

first_of : KnownOfSteps → (b : Board) (x : Instr) (i : ℕ) (t : Target) (m : Asked) (slots : ℕ)
    (s : BusState) (a : Answered) (e : Entry) (next : Machine) → SendsSafely b x i t m slots
    → IsStart b s → IsStep b (x ∷ End ∷ []) (start_at s) a e next → First b s m slots a e next
first_of known b x i t m slots s a e next sends starts step =
    let p = x ∷ End ∷ [] in
    let program = program_of b x i t m slots sends in
    let seen =
    known.steps b p (start_at s) next a e sends.is program
    (known.ready b p s sends.is program starts) step in
    let asks = sends.asks s in
    let same : x ≡ seen.instr = let here : slice_get p 0 ≡ Some seen.instr = seen.here in cc in
    let asked : message_of b seen.instr (start_at s).regs ≡ Some m =
    subst (λ (y : Instr). message_of b y (start_at s).regs ≡ Some m) same asks in
    let carries : CarriesOver (winner m a) b s m a e =
    subst (λ (o : Option Asked). Carries b s o a e) asked seen.carries in
    let taken : x ≡ step.instr = let here : slice_get p 0 ≡ Some step.instr = step.here in cc in
    let of : IsStepOf b x (Some m) (start_at s) a e next =
    subst (λ (o : Option Asked). IsStepOf b x o (start_at s) a e next) asks
    (subst (λ (y : Instr). IsStepOf b y (message_of b y (start_at s).regs) (start_at s) a e next)
    (sym taken) step.step) in
    let o = outcome_of (Some m) a in
    let long : e.ticks ≡ length e.samples =
    ap (λ (y : Entry). y.ticks) of.entry_is ∙ sym (ap (λ (y : Entry). length y.samples) of.entry_is)
    in
    let few = few_over b m slots s a e (winner m a) (sends.long (length a.bytes)) of.fits.1
    carries in
    record {
      fits = of.fits.1;
      carries = carries;
      does = subst (λ (o : Option Asked). StepDoes b s (carried o a) a e) asked seen.does;
      place = ap (λ (y : Machine). y.place) of.next_is ∙ place_after x m s next.bus o sends.goes_on;
      ended = ap (λ (y : Machine). y.ended) of.next_is ∙ ended_after x m s next.bus o;
      ticks = rw long few;
    }

-- the target of the message's address is the one that it is sent to
its_target : TargetsAreFound → (b : Board) (i j : ℕ) (t u : Target) (m : Asked) → IsBoard b
    → IsTargetAt b i t
    → IsTargetAt b j u → m.address ≡ t.address → m.address ≡ u.address → (i ≡ j) × (t ≡ u)
its_target found b i j t u m is at uj to other =
    let same : i ≡ j = only_one found b is i j t u at uj (sym to ∙ other) in
    let there : Some t ≡ Some u = sym at ∙ subst (λ n. IsTargetAt b n u) (sym same) uj in
    (same, cc)

-- the step where none wins over its message, and where one does
safe_alone : KnownOfSteps → (b : Board) (x : Instr) (i : ℕ) (t : Target) (m : Asked) (slots : ℕ)
    (s : BusState) (a : Answered) (e : Entry) → SendsSafely b x i t m slots → IsStart b s
    → HasAllowedFrame b e → StepDoes b s (Some m) a e → IsSafe b [] e
safe_alone known b x i t m slots s a e sends starts one does = record {
  read = one.read;
  one = one.one;
  allowed = one.allowed;
  protection = λ j u code uj writes guarded.
      let told = (does.writes j u code uj).0 writes in
      let same = its_target known.found b i j t u m sends.is sends.at uj sends.to told.to in
      let free = sends.permitted s starts
      (subst (λ n. IsTrue (is_guarded n)) (sym told.command) guarded) in
      rw does.before (rw (sym same.0) (rw (sym told.command) free));
  limits = λ j u code low high d r uj sets begins selected.
      let told = (does.voltages j u code low high uj sets).0 begins in
      let same = its_target known.found b i j t u m sends.is sends.at uj sends.to told.to in
      let here : Selects b s i d r = rw same.0 (rw (sym does.before) selected) in
      let within =
      sends.within s d r starts told.form
      (subst (λ n. IsTrue (carries_voltage n)) (sym told.command) sets) here in
      let word : word_of m.out ≡ low + 256 * high = ap word_of told.content in
      rw (sym same.1) (rw (sym word) within);
  order = λ j u value d r uj begins on selected.
      let told = (does.operations j u value uj).0 begins in
      let same =
      its_target known.found b i j t u m sends.is sends.at uj sends.to told.is_write.to in
      let here : Selects b s i d r = rw same.0 (rw (sym does.before) selected) in
      let byte : slice_index m.out 0 ≡ value =
      ap (λ (bytes : List ℕ). slice_index bytes 0) told.is_write.content in
      let none =
      sends.needless s d r starts told.is_write.form told.is_write.command (rw byte on) here in
      rw none (All-nil (IsReportedGood b []));
}

safe_lost : (b : Board) (s : BusState) (a : Answered) (e : Entry) → HasAllowedFrame b e
    → StepDoes b s None a e → IsSafe b [] e
safe_lost b s a e one does = record {
  read = one.read;
  one = one.one;
  allowed = one.allowed;
  protection = λ j u code uj writes guarded. absurd ((does.writes j u code uj).0 writes);
  limits = λ j u code low high d r uj sets begins selected.
      absurd ((does.voltages j u code low high uj sets).0 begins);
  order = λ j u value d r uj begins on selected.
      absurd ((does.operations j u value uj).0 begins);
}

first_safe : KnownOfSteps → (b : Board) (x : Instr) (i : ℕ) (t : Target) (m : Asked) (slots : ℕ)
    (s : BusState) (a : Answered) (e : Entry) (next : Machine) → SendsSafely b x i t m slots
    → IsStart b s → First b s m slots a e next → IsSafe b [] e
first_safe known b x i t m slots s a e next sends starts f =
    by (winner m a) f.fits f.does (known.frames b s (Some m) a e f.does.before f.carries)
  where
    by : (w : Option Contender) → FitsOver w b s m a → StepDoes b s (unless_won w m) a e
        → (IfSome (unless_won w m) (λ m. IsAllowedBy b s m a) → HasAllowedFrame b e)
        → IsSafe b [] e
    by None fits does frames =
        safe_alone known b x i t m slots s a e sends starts
        (frames (sends.allowed s a starts fits)) does
    by (Some c) fits does frames = safe_lost b s a e (frames tt) does

-- what runs may be: none, its first step, and `end` after it
record Judged (b : Board) (p : List Instr) (bound : ℕ) (entries : List Entry)
    (last : Machine) : Type 0 where
  pub safe : AreSafe b [] entries
  pub ticks : total_ticks entries ≤ bound
  pub sends : last.ended ≡ Running → SendsMessage b p last

first_sends : TargetsAreFound
    → (b : Board) (x : Instr) (i : ℕ) (t : Target) (m : Asked) (slots : ℕ) (s : BusState)
    → SendsSafely b x i t m slots → SendsMessage b (x ∷ End ∷ []) (start_at s)
first_sends found b x i t m slots s sends y here =
    let same : x ≡ y = let two : Some x ≡ Some y = here in cc in
    let asked : message_of b y (start_at s).regs ≡ Some m =
    subst (λ (z : Instr). message_of b z (start_at s).regs ≡ Some m) same (sends.asks s) in
    subst (λ (o : Option Asked). IfSome o (λ m. IsMessage b m)) (sym asked) (record {
      goes = λ other.
          rw (sends.to, found b i t sends.is sends.at) refl;
      counts = sends.counts;
    })

end_sends : (b : Board) (x : Instr) (m : Machine) → m.place ≡ 1
    → SendsMessage b (x ∷ End ∷ []) m
end_sends b x m place y here =
    let two : Some End ≡ Some y = rw place at here in
    let same : End ≡ y = cc in
    subst (λ (z : Instr). IfSome (message_of b z m.regs) (λ m. IsMessage b m)) same tt

judged : KnownOfSteps → (b : Board) (x : Instr) (i : ℕ) (t : Target) (m : Asked) (slots : ℕ)
    (s : BusState) → SendsSafely b x i t m slots → IsStart b s → (answers : List Answered)
    (entries : List Entry) (last : Machine)
    → IsRun b (x ∷ End ∷ []) (start_at s) answers entries last
    → Judged b (x ∷ End ∷ []) (1 + message_ticks b slots) entries last
judged known b x i t m slots s sends starts [] [] last run =
    record {
      safe = tt;
      ticks = omega arith;
      sends = λ runs.
          subst (λ (y : Machine). SendsMessage b (x ∷ End ∷ []) y) (sym run)
          (first_sends known.found b x i t m slots s sends);
    }
judged known b x i t m slots s sends starts [] (e ∷ entries) last run = absurd run
judged known b x i t m slots s sends starts (a ∷ answers) [] last run = absurd run
judged known b x i t m slots s sends starts (a ∷ []) (e ∷ []) last run =
    let f = first_of known b x i t m slots s a e run.0 sends starts run.1 in
    let few = f.ticks in
    let same : last ≡ run.0 = run.2 in
    record {
      safe = (first_safe known b x i t m slots s a e run.0 sends starts f, tt);
      ticks = omega (arith, few);
      sends = λ runs. end_sends b x last (ap (λ (y : Machine). y.place) same ∙ f.place);
    }
judged known b x i t m slots s sends starts (a ∷ []) (e ∷ g ∷ entries) last run = absurd run.2
judged known b x i t m slots s sends starts (a ∷ d ∷ answers) (e ∷ []) last run = absurd run.2
judged known b x i t m slots s sends starts (a ∷ d ∷ []) (e ∷ g ∷ []) last run =
    let p = x ∷ End ∷ [] in
    let f = first_of known b x i t m slots s a e run.0 sends starts run.1 in
    let here : slice_get p run.0.place ≡ Some End = rw f.place refl in
    let ends = step_of b p run.0 d g run.2.0 here run.2.1 in
    let quiet = seen known.idle run.0 d g ends.entry in
    let few = f.ticks in
    let one = quiet.ticks in
    let same : last ≡ run.2.0 = run.2.2 in
    record {
      safe = (
        first_safe known b x i t m slots s a e run.0 sends starts f,
        (safe b (e ∷ []) g quiet.none quiet.silent, tt),
      );
      ticks = omega (arith, few, one);
      sends = λ runs.
          let finished : last.ended ≡ Finished =
          ap (λ (y : Machine). y.ended) same ∙ ends.ended in
          let bad : Running ≡ Finished = sym runs ∙ finished in
          cc;
    }
judged known b x i t m slots s sends starts (a ∷ d ∷ []) (e ∷ g ∷ h ∷ entries) last run =
    absurd run.2.2
judged known b x i t m slots s sends starts (a ∷ d ∷ c ∷ answers) (e ∷ g ∷ []) last run =
    absurd run.2.2
judged known b x i t m slots s sends starts (a ∷ d ∷ c ∷ answers) (e ∷ g ∷ h ∷ entries) last run =
    let p = x ∷ End ∷ [] in
    let f = first_of known b x i t m slots s a e run.0 sends starts run.1 in
    let here : slice_get p run.0.place ≡ Some End = rw f.place refl in
    let ends = step_of b p run.0 d g run.2.0 here run.2.1 in
    let running : run.2.0.ended ≡ Running = run.2.2.1.running in
    let bad : Running ≡ Finished = sym running ∙ ends.ended in
    cc

pub one_message_is_safe : KnownOfSteps → (b : Board) (x : Instr) (i : ℕ) (t : Target) (m : Asked)
    (slots : ℕ) → SendsSafely b x i t m slots
    → RunsAreSafe b (x ∷ End ∷ []) (1 + message_ticks b slots)
one_message_is_safe known b x i t m slots sends s answers entries last starts run =
    let p = x ∷ End ∷ [] in
    let program = program_of b x i t m slots sends in
    let j = judged known b x i t m slots s sends starts answers entries last run in
    known.runs b p (start_at s) last answers entries (1 + message_ticks b slots) sends.is program
    (known.ready b p s sends.is program starts) run j.safe j.ticks j.sends
