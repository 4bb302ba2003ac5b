-- What a run of the model is seen to do.
use Rattle.std.proofs.Common.{◌≡◌, ℕ, Bool, Option, Some, None, List, [], ◌∷◌, map, is_some, refl}
use Rattle.std.proofs.Common.{sym, ap, subst}
use Rattle.std.specs.List.{AllByRecursion}
use Rattle.std.proofs.lemmas.List.Elements.{All-from_recursion}
use Rattle.wires.specs.declared.lines.Sample.{Sample}
use Rattle.wires.specs.Events.{events_of}
use Rattle.bit_bus.specs.Levels.{first_cut}
use Rattle.smbus.specs.Asked.{Asked}
use Rattle.smbus.specs.Answered.{Answered}
use Rattle.smbus.specs.Contenders.{Contender, contender_frame}
use Rattle.smbus.specs.Winners.{winner}
use Rattle.smbus.specs.Shown.{Shown}
use Rattle.smbus.specs.Frames.{AreFrames}
use Rattle.smbus.specs.Slots.{plan_of}
use Rattle.board.specs.Boards.{Board}
use Rattle.board.specs.Valid.{IsBoard}
use Rattle.targets.specs.Outcomes.{returned_by, ending_of, outcome_alone}
use Rattle.targets.specs.States.{BusState}
use Rattle.seq_program.specs.declared.instr.Instr.{Instr}
use Rattle.seq_program.specs.Messages.{message_of}
use Rattle.seq_program.specs.Valid.{IsProgram}
use Rattle.smbus.specs.Slots.{samples_of}
use Rattle.simulator.specs.Entries.{AreRead, IsEntry}
use Rattle.simulator.specs.EntryLaws.{ReadsOne, JoinedReadBack}
use Rattle.simulator.specs.Machines.{Machine, Entry}
use Rattle.simulator.specs.Steps.{alert_level, IsStep, IsRun}
use Rattle.simulator.specs.StepLaws.{IsReady, CarriesOver, Carries, StepsAreSeen}
use Rattle.simulator.specs.RunLaws.{IsFrameOf, IsFrameOver, AreStepFrames, AreRunFrames}
use Rattle.simulator.specs.RunLaws.{RunsAreSeen}

-- whole or broken off, by how the message ended
by_ending : (m : Asked) (a : Answered) (alert : Bool) (r : ReadsOne m a alert)
    (refuse cut : Option ℕ) (returned : ℕ)
    → a.refuse ≡ refuse → first_cut (plan_of m a) ≡ cut
    → IsFrameOf (samples_of alert m a) m a (ending_of refuse cut returned) r.shows.one.frame
by_ending m a alert r refuse (Some slot) returned at cut =
    (r.timeout.1 (ap is_some cut), r.shows.one.cut slot cut alert)
by_ending m a alert r (Some n) None returned at cut = (r.shows.one.only_refused n at cut).0
by_ending m a alert r None None returned at cut = r.shows.one.done at cut

record Framed (s : BusState) (o : Option Asked) (a : Answered) (e : Entry) : Type 0 where
  pub frames : List Shown
  pub read : AreFrames (events_of e.samples) frames
  pub are : AreStepFrames e.samples o a frames

record FramedOver (m : Asked) (a : Answered) (e : Entry) (w : Option Contender) : Type 0 where
  pub frame : Shown
  pub read : AreFrames (events_of e.samples) (frame ∷ [])
  pub is : IsFrameOver w e.samples m a frame

framed_over : (b : Board) (s : BusState) (m : Asked) (a : Answered) (e : Entry)
    (w : Option Contender) → CarriesOver w b s m a e → FramedOver m a e w
framed_over b s m a e (Some c) carries =
    record { frame = contender_frame c; read = carries.is_only.is; is = refl }
framed_over b s m a e None carries =
    let r = carries.reads in
    let f = r.shows.one.frame in
    let lines : List Sample = samples_of (alert_level s) m a in
    let here : e.samples ≡ lines = carries.samples in
    let ended : IsFrameOf lines m a (outcome_alone (Some m) a) f =
    by_ending m a (alert_level s) r a.refuse (first_cut (plan_of m a))
    (returned_by m.form a.value a.bytes) refl refl in
    record {
      frame = f;
      read = subst (λ (x : List Sample). AreFrames (events_of x) (f ∷ [])) (sym here) r.is_only.is;
      is = subst (λ (x : List Sample). IsFrameOf x m a (outcome_alone (Some m) a) f) (sym here)
          ended;
    }

framed : (b : Board) (s : BusState) (o : Option Asked) (a : Answered) (e : Entry)
    → Carries b s o a e → Framed s o a e
framed b s None a e carries = record { frames = []; read = carries; are = refl }
framed b s (Some m) a e carries =
    let one = framed_over b s m a e (winner m a) carries in
    record { frames = one.frame ∷ []; read = one.read; are = (one.frame, refl, one.is) }

abbrev lines_of : List Entry → List (List Sample)
lines_of entries = map (λ (e : Entry). e.samples) entries

record Walked (b : Board) (p : List Instr) (m : Machine) (answers : List Answered)
    (entries : List Entry) (last : Machine) : Type 0 where
  pub frames : List (List Shown)
  pub steps : AreRunFrames b p m answers entries frames
  pub read : AreRead (lines_of entries) frames
  pub entries_are : AllByRecursion IsEntry (lines_of entries)
  pub ready : IsReady b p last

walked : StepsAreSeen
    → (b : Board) (p : List Instr) (m last : Machine) (answers : List Answered)
    (entries : List Entry) → IsBoard b → IsProgram p → IsReady b p m
    → IsRun b p m answers entries last → Walked b p m answers entries last
walked steps b p m last [] [] is program ready run = record {
  frames = [];
  steps = tt;
  read = tt;
  entries_are = tt;
  ready = subst (λ (x : Machine). IsReady b p x) (sym run) ready;
}
walked steps b p m last [] (e ∷ entries) is program ready run = absurd run
walked steps b p m last (a ∷ answers) [] is program ready run = absurd run
walked steps b p m last (a ∷ answers) (e ∷ entries) is program ready run =
    let next = run.0 in
    let step : IsStep b p m a e next = run.1 in
    let seen = steps b p m next a e is program ready step in
    let own = framed b m.bus (message_of b seen.instr m.regs) a e seen.carries in
    let later = walked steps b p next last answers entries is program seen.ready run.2 in
    record {
      frames = own.frames ∷ later.frames;
      steps = (
        next,
        record {
          step = step;
          instr = seen.instr;
          here = seen.here;
          read = own.read;
          are = own.are;
        },
        later.steps,
      );
      read = (own.read, later.read);
      entries_are = (seen.entry, later.entries_are);
      ready = later.ready;
    }

pub runs_are_seen : StepsAreSeen → JoinedReadBack → RunsAreSeen
runs_are_seen steps joins b p m last answers entries is program ready run =
    let all = walked steps b p m last answers entries is program ready run in
    let lines =
    joins (lines_of entries) (All-from_recursion IsEntry (lines_of entries) all.entries_are) in
    record {
      frames = all.frames;
      steps = all.steps;
      read = lines.frames all.frames all.read;
      only = lines.only all.frames all.read;
      ready = all.ready;
    }
