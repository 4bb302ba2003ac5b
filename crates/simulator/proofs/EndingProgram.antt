-- Every run of a program that only ends is safe.
use Rattle.std.proofs.Common.{◌≡◌, ◌≤◌, inl, inr, true, ℕ, List, [], ◌∷◌, slice_get, Some, None}
use Rattle.std.proofs.Common.{refl, sym, ap, subst, ◌∙◌, arith}
use Rattle.std.proofs.lemmas.List.{append-nil}
use Rattle.std.proofs.lemmas.List.Elements.{All-nil, All-from_recursion}
use Rattle.wires.specs.declared.lines.Sample.{Sample}
use Rattle.wires.specs.Events.{events_of}
use Rattle.bit_bus.specs.Levels.{EndsHigh}
use Rattle.smbus.specs.Answered.{Answered}
use Rattle.smbus.specs.Shown.{Shown}
use Rattle.smbus.specs.Frames.{AreFrames}
use Rattle.board.specs.Boards.{Board, Target}
use Rattle.targets.specs.States.{BusState}
use Rattle.targets.specs.SomeAnswer.{SilenceHasAnswers}
use Rattle.seq_program.specs.declared.instr.Instr.{Instr}
use Rattle.seq_program.specs.declared.instr.Instr.TheVariants.{End}
use Rattle.seq_program.specs.Messages.{message_of}
use Rattle.simulator.specs.declared.machine.Ending.TheVariants.{Running, Finished}
use Rattle.simulator.specs.Does.{HasFrame}
use Rattle.simulator.specs.EntryLaws.{IdleReadsBack}
use Rattle.simulator.specs.Machines.{Machine, Entry, start_at}
use Rattle.simulator.specs.Steps.{alert_level, step_entry, IsStepOf, IsStep, IsRun}
use Rattle.simulator.specs.Entries.{idle_samples}
use Rattle.simulator.specs.Reports.{WritesTo}
use Rattle.simulator.specs.Allowed.{MayStand}
use Rattle.simulator.specs.Safe.{IsSafe}
use Rattle.simulator.specs.Headline.{IsSafeWithin, ReadsAllowed}
use Rattle.simulator.specs.SmallPrograms.{ending_program, EndingIsSafe}

-- a step of `end`
pub record Ends (m : Machine) (a : Answered) (e : Entry) (next : Machine) : Type 0 where
  pub entry : e ≡ step_entry End None a m
  pub ended : next.ended ≡ Finished

pub step_of : (b : Board) (p : List Instr) (m : Machine) (a : Answered) (e : Entry)
    (next : Machine) → slice_get p m.place ≡ Some End → IsStep b p m a e next → Ends m a e next
step_of b p m a e next at step =
    let same : End ≡ step.instr =
    let two : Some End ≡ Some step.instr = sym at ∙ step.here in cc in
    let of : IsStepOf b End None m a e next =
    subst (λ (i : Instr). IsStepOf b i (message_of b i m.regs) m a e next)
    (sym same) step.step in
    record { entry = of.entry_is; ended = ap (λ (m : Machine). m.ended) of.next_is }

-- no frame is seen
abbrev pub Silent : List Sample → Type 0
Silent samples = (frames : List Shown) → AreFrames (events_of samples) frames → frames ≡ []

no_frame : (samples : List Sample) → Silent samples → (f : Shown) → HasFrame samples f → ⊥
no_frame samples silent f has = let none : f ∷ [] ≡ [] = silent (f ∷ []) has in cc

writes_nothing : (samples : List Sample) → Silent samples → (t : Target) (code : ℕ)
    → WritesTo t samples code → ⊥
writes_nothing samples silent t code (inl begins) =
    no_frame samples silent begins.1.frame begins.1.has
writes_nothing samples silent t code (inr sends) = no_frame samples silent sends.frame sends.has

pub safe : (b : Board) (history : List Entry) (e : Entry) → AreFrames (events_of e.samples) []
    → Silent e.samples → IsSafe b history e
safe b history e none silent = record {
  read = inl none;
  one = λ frames are. let empty : frames ≡ [] = silent frames are in rw empty (omega arith);
  allowed = λ f has. absurd (no_frame e.samples silent f has);
  protection = λ i t code at writes guarded. absurd (writes_nothing e.samples silent t code writes);
  limits = λ i t code low high d r at sets begins selected.
      absurd (no_frame e.samples silent begins.frame begins.has);
  order = λ i t value d r at begins on selected.
      absurd (no_frame e.samples silent begins.frame begins.has);
}

-- what such a step is seen to be
pub record Seen (e : Entry) : Type 0 where
  pub none : AreFrames (events_of e.samples) []
  pub silent : Silent e.samples
  pub ticks : e.ticks ≡ 1
  pub high : EndsHigh e.samples

pub seen : IdleReadsBack → (m : Machine) (a : Answered) (e : Entry) → e ≡ step_entry End None a m
    → Seen e
seen idle m a e is =
    let no = idle (alert_level m.bus) 1 in
    rw is (record {
      none = no.none;
      silent = no.only;
      ticks = no.count;
      high = (no.entry (omega arith)).high;
    })

run_frames : (b : Board) (e : Entry) → Seen e → ReadsAllowed b (e ∷ [])
run_frames b e one = record {
  frames = [];
  read = rw append-nil one.none;
  only = λ others are. one.silent others (rw append-nil at are);
  allowed = ([], [], refl, one.none, All-nil (MayStand b e.before e.samples), refl);
}

-- before its step, and after it
unbegun : SilenceHasAnswers → IdleReadsBack → (b : Board) (s : BusState)
    → IsSafeWithin b ending_program 1 [] (start_at s)
unfolding idle_samples
unbegun answers idle b s = record {
  safe = tt;
  frames =
      record { frames = []; read = (idle true 0).none; only = (idle true 0).only; allowed = refl };
  bounded = omega arith;
  each_tick = All-nil (λ (e : Entry). 1 ≤ e.ticks);
  high = All-nil (λ (e : Entry). EndsHigh e.samples);
  goes_on = λ running. record { instr = End; here = refl; answer = answers b s };
}

ended : (b : Board) (e : Entry) (last : Machine) → Seen e → last.ended ≡ Finished
    → IsSafeWithin b ending_program 1 (e ∷ []) last
ended b e last one end = record {
  safe = (safe b [] e one.none one.silent, tt);
  frames = run_frames b e one;
  bounded = omega (arith, one.ticks);
  each_tick =
      All-from_recursion (λ (x : Entry). 1 ≤ x.ticks) (e ∷ []) (omega (arith, one.ticks), tt);
  high = All-from_recursion (λ (x : Entry). EndsHigh x.samples) (e ∷ []) (one.high, tt);
  goes_on = λ running. let bad : Running ≡ Finished = sym running ∙ end in cc;
}

all_runs : SilenceHasAnswers → IdleReadsBack
    → (b : Board) (s : BusState) (answers : List Answered) (entries : List Entry) (last : Machine)
    → IsRun b ending_program (start_at s) answers entries last
    → IsSafeWithin b ending_program 1 entries last
all_runs silence idle b s [] [] last run =
    subst (λ (m : Machine). IsSafeWithin b ending_program 1 [] m) (sym run)
    (unbegun silence idle b s)
all_runs silence idle b s [] (e ∷ entries) last run = absurd run
all_runs silence idle b s (a ∷ answers) [] last run = absurd run
all_runs silence idle b s (a ∷ []) (e ∷ []) last run =
    let one = step_of b ending_program (start_at s) a e run.0 refl run.1 in
    let same : last ≡ run.0 = run.2 in
    ended b e last (seen idle (start_at s) a e one.entry)
    (ap (λ (m : Machine). m.ended) same ∙ one.ended)
all_runs silence idle b s (a ∷ []) (e ∷ f ∷ entries) last run = absurd run.2
all_runs silence idle b s (a ∷ c ∷ answers) (e ∷ []) last run = absurd run.2
all_runs silence idle b s (a ∷ c ∷ answers) (e ∷ f ∷ entries) last run =
    let one = step_of b ending_program (start_at s) a e run.0 refl run.1 in
    let next = run.2.1 in
    let running : run.0.ended ≡ Running = next.running in
    let bad : Running ≡ Finished = sym running ∙ one.ended in
    cc

pub ending_is_safe : SilenceHasAnswers → IdleReadsBack → EndingIsSafe
ending_is_safe silence idle b s answers entries last starts run =
    all_runs silence idle b s answers entries last run
