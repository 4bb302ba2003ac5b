-- What a step of the model is seen to do.
use Rattle.std.proofs.Common.{◌≡◌, ◌≤◌, ◌<◌, ◌+◌, ◌%◌, ℕ, zero, suc, Option, Some, None, List, []}
use Rattle.std.proofs.Common.{length, IfSome}
use Rattle.std.proofs.Common.{◌∷◌, ◌++◌, ◌∙◌, Bool, min, replicate, slice_index, slice_set, refl}
use Rattle.std.proofs.Common.{ap, arith}
use Rattle.std.specs.List.{AllByRecursion}
use Rattle.std.proofs.lemmas.List.Elements.{All-from_recursion, recursion_from_All}
use Rattle.smbus.specs.declared.message.Form.{Form}
use Rattle.smbus.specs.declared.message.Form.TheVariants as form
use Rattle.smbus.specs.Asked.{Asked}
use Rattle.smbus.specs.Answered.{Answered}
use Rattle.smbus.specs.Contenders.{Contender, contender_samples, contender_slot_count}
use Rattle.smbus.specs.Winners.{winner, unless_won, carried}
use Rattle.smbus.specs.FirstSegment.{message_bytes, bytes_out}
use Rattle.smbus.specs.MessageFrame.{AreAsked}
use Rattle.board.specs.Boards.{Board}
use Rattle.board.specs.Valid.{IsBoard}
use Rattle.targets.specs.declared.outcome.Outcome.{Outcome}
use Rattle.targets.specs.declared.outcome.Outcome.TheVariants.{Done, NotAcknowledged, TimedOut}
use Rattle.targets.specs.declared.outcome.Outcome.TheVariants.{Lost}
use Rattle.targets.specs.Outcomes.{returned_by, ending_of, cut_of, outcome_alone, outcome_over}
use Rattle.targets.specs.States.{Belongs}
use Rattle.targets.specs.StateLaws.{StartsBelong, StepsBelong}
use Rattle.targets.specs.Fitting.{Fits, FitsOver, MayContend}
use Rattle.targets.specs.ContendedLaws.{AllowedCanStart}
use Rattle.targets.specs.RangeLaws.{LengthsAreOfBlocks}
use Rattle.targets.specs.WireLaws.{IsOnWire, FittingBytesAreOnWire}
use Rattle.seq_program.specs.declared.instr.Instr.{Instr}
use Rattle.seq_program.specs.declared.instr.Instr.TheVariants as instr
use Rattle.seq_program.specs.Messages.{message_of}
use Rattle.seq_program.specs.Valid.{IsInstr}
use Rattle.wires.specs.Events.{events_of}
use Rattle.smbus.specs.Contenders.{contender_frame}
use Rattle.smbus.specs.OneFrame.{IsOnlyFrame}
use Rattle.simulator.specs.Entries.{IsEntry}
use Rattle.simulator.specs.EntryLaws.{EntriesReadBack, IdleReadsBack, ReadsOne}
use Rattle.simulator.specs.EntryLaws.{ReadsForeign, ForeignReadsBack}
use Rattle.simulator.specs.ForeignTicks.{foreign_ticks}
use Rattle.simulator.specs.Does.{IsFrontOfBytes, EntriesDoAsAsked}
use Rattle.simulator.specs.Machines.{Machine, Entry}
use Rattle.seq_program.specs.Requests.{result_in}
use Rattle.simulator.specs.Moves.{with_result, after_message, silently}
use Rattle.simulator.specs.Steps.{alert_level, idle_ticks, samples_over, IsStepOf}
use Rattle.simulator.specs.StepDoes.{StepDoes}
use Rattle.simulator.specs.StepLaws.{CarriesOver, Carries, StepsAreSeen, StartsAreReady}
use Rattle.simulator.proofs.NextPlaces.{is_instr, stepped_place}
use Rattle.simulator.proofs.OneEntry.{less_times}
use Rattle.simulator.proofs.Sendable.{can_be_sent, may_contend}
use Rattle.simulator.proofs.StepDoing.{message_does, silence_does, foreign_does}
use Rattle.simulator.proofs.TakenForms.{takes_own_form, no_block_read}
use Rattle.simulator.proofs.WireMessages.{sent_bytes}

-- the laws on lines that are used here
pub record KnownOfLines : Type 0 where
  pub on_wire : FittingBytesAreOnWire
  pub lengths : LengthsAreOfBlocks
  pub start : AllowedCanStart
  pub reads : EntriesReadBack
  pub does : EntriesDoAsAsked
  pub idle : IdleReadsBack
  pub foreign : ForeignReadsBack

abbrev Words : List ℕ → Type 0
Words regs = AllByRecursion (λ word. word < 65536) regs

-- a message of a machine that is ready is one on the wire
asked_on_wire : FittingBytesAreOnWire → LengthsAreOfBlocks → (b : Board) (i : Instr) (m : Machine)
    (msg : Asked) (a : Answered) → IsBoard b
    → IsInstr i → Belongs b m.bus → Words m.regs → message_of b i m.regs ≡ Some msg
    → Fits b m.bus msg a → AreAsked msg a
asked_on_wire on_wire lengths b i m msg a is ok belongs words e fits =
    let sent = sent_bytes b i m.regs msg is ok words e in
    let got = on_wire b m.bus msg a is belongs fits.form in
    record {
      can_be_sent = can_be_sent lengths b m.bus i m.regs msg a is ok e fits;
      wire = record {
        address = sent.address;
        code = sent.code;
        out = sent.out;
        value = got.value;
        read = got.read;
      };
    }

-- registers stay words

set_word : (regs : List ℕ) (r v : ℕ) → Words regs → v < 65536 → Words (slice_set regs r v)
set_word [] r v words lt = tt
set_word (x ∷ regs) zero v words lt = (lt, words.1)
set_word (x ∷ regs) (suc r) v words lt = (words.0, set_word regs r v words.1 lt)

result_word : (o : Option ℕ) (v : ℕ) (regs : List ℕ) → Words regs → v < 65536
    → Words (with_result o v regs)
result_word None v regs words lt = words
result_word (Some r) v regs words lt = set_word regs r v words lt

message_words : (i : Instr) (outcome : Outcome) (m : Machine) → Words m.regs
    → ((v : ℕ) → outcome ≡ Done v → v < 65536) → Words (after_message i outcome m).regs
message_words i (Done v) m words lt = result_word (result_in i) v m.regs words (lt v refl)
message_words i NotAcknowledged m words lt = words
message_words i TimedOut m words lt = words
message_words i Lost m words lt = words

silent_words : (i : Instr) (m : Machine) → IsInstr i → Words m.regs → Words (silently i m).regs
silent_words (instr.Set r v) m ok words =
    let le : v ≤ 65535 = ok.1 in
    set_word m.regs r v words (omega (arith, le))
silent_words (instr.Add r v) m ok words =
    set_word m.regs r (min (slice_index m.regs r + v) 65535) words (omega arith)
silent_words (instr.Quick t r l) m ok words = words
silent_words (instr.Send t c l) m ok words = words
silent_words (instr.Receive t r l) m ok words = words
silent_words (instr.Write t c v l) m ok words = words
silent_words (instr.Read t c w r l) m ok words = words
silent_words (instr.Call t c v r l) m ok words = words
silent_words (instr.BlockWrite t c bytes l) m ok words = words
silent_words (instr.BlockRead t c r l) m ok words = words
silent_words (instr.BlockCall t c bytes r l) m ok words = words
silent_words (instr.Alert r l) m ok words = words
silent_words (instr.IfAlert l) m ok words = words
silent_words (instr.If r k v l) m ok words = words
silent_words (instr.Above r v l) m ok words = words
silent_words (instr.Count c v) m ok words = words
silent_words (instr.Again c l) m ok words = words
silent_words (instr.Wait n) m ok words = words
silent_words (instr.Goto l) m ok words = words
silent_words instr.End m ok words = words
silent_words instr.Fail m ok words = words

-- what was read is a word
first_small : (bytes : List ℕ) → AllByRecursion (λ byte. byte < 256) bytes
    → slice_index bytes 0 < 65536
first_small [] all = omega arith
first_small (x ∷ bytes) all = let lt : x < 256 = all.0 in omega (arith, lt)

low_small : (value : ℕ) → value % 256 < 65536
low_small value = omega arith

returned_small : (f : Form) (value : ℕ) (bytes : List ℕ) → value < 65536
    → AllByRecursion (λ byte. byte < 256) bytes → returned_by f value bytes < 65536
returned_small (form.Quick r) value bytes lt all = omega arith
returned_small form.SendByte value bytes lt all = omega arith
returned_small form.ReceiveByte value bytes lt all = low_small value
returned_small form.WriteByte value bytes lt all = omega arith
returned_small form.WriteWord value bytes lt all = omega arith
returned_small form.ReadByte value bytes lt all = low_small value
returned_small form.ReadWord value bytes lt all = lt
returned_small form.ProcessCall value bytes lt all = lt
returned_small form.BlockWrite value bytes lt all = omega arith
returned_small form.BlockRead value bytes lt all = first_small bytes all
returned_small form.BlockProcessCall value bytes lt all = first_small bytes all
returned_small form.Alert value bytes lt all = low_small value

done_small : (refuse cut : Option ℕ) (returned v : ℕ) → returned < 65536
    → ending_of refuse cut returned ≡ Done v → v < 65536
done_small refuse (Some slot) returned v lt e = cc
done_small (Some byte) None returned v lt e = cc
done_small None None returned v lt e = let same : returned ≡ v = cc in omega (arith, same, lt)

outcome_small : (msg : Asked) (a : Answered) (v : ℕ) → IsOnWire a
    → outcome_alone (Some msg) a ≡ Done v
    → v < 65536
outcome_small msg a v wire e =
    done_small a.refuse (cut_of msg a) (returned_by msg.form a.value a.bytes) v
    (returned_small msg.form a.value a.bytes wire.value
    (recursion_from_All (λ byte. byte < 256) a.bytes wire.read)) e

-- the bytes that go out begin the message
out_of : (m : Asked) (a : Answered) (alert : Bool) (r : ReadsOne m a alert)
    → IsFrontOfBytes (bytes_out m a) (message_bytes m a)
out_of m a alert r = (
  r.shows.begins.0,
  r.shows.begins.1 ∙ ap (λ (l : List ℕ). l ++ r.shows.begins.0) r.shows.went_out,
)

-- a message's step, from who wins over it
record Over (b : Board) (i : Instr) (msg : Asked) (m : Machine) (a : Answered) (e : Entry)
    (next : Machine) (w : Option Contender) : Type 0 where
  pub fits : FitsOver w b m.bus msg a
  pub before : e.before ≡ m.bus
  pub samples : e.samples ≡ samples_over w m.bus msg a
  pub regs : next.regs ≡ (after_message i (outcome_over w msg a) m).regs

record SeenOver (b : Board) (msg : Asked) (m : Machine) (a : Answered) (e : Entry)
    (next : Machine) (w : Option Contender) : Type 0 where
  pub carries : CarriesOver w b m.bus msg a e
  pub does : StepDoes b m.bus (unless_won w msg) a e
  pub entry : IsEntry e.samples
  pub words : Words next.regs

record Seen (b : Board) (i : Instr) (o : Option Asked) (m : Machine) (a : Answered) (e : Entry)
    (next : Machine) : Type 0 where
  pub carries : Carries b m.bus o a e
  pub does : StepDoes b m.bus (carried o a) a e
  pub entry : IsEntry e.samples
  pub words : Words next.regs

same_samples : (e f : Entry) → e ≡ f → e.samples ≡ f.samples
same_samples e f is = ap (λ (x : Entry). x.samples) is

same_before : (e f : Entry) → e ≡ f → e.before ≡ f.before
same_before e f is = ap (λ (x : Entry). x.before) is

same_regs : (x y : Machine) → x ≡ y → x.regs ≡ y.regs
same_regs x y is = ap (λ (m : Machine). m.regs) is

over_of : (b : Board) (i : Instr) (msg : Asked) (m : Machine) (a : Answered) (e : Entry)
    (next : Machine) → IsStepOf b i (Some msg) m a e next
    → Over b i msg m a e next (winner msg a)
over_of b i msg m a e next step = record {
  fits = step.fits.1;
  before = same_before e _ step.entry_is;
  samples = same_samples e _ step.entry_is;
  regs = same_regs next _ step.next_is;
}

-- no other controller takes longer than the longest frame that the board lets it send
foreign_few : (b : Board) (c : Contender) (alert : Bool) → MayContend b c → ReadsForeign c alert
    → length (contender_samples alert c) ≤ foreign_ticks b
foreign_few b c alert may r =
    let f = r.few b.foreign_stretch may.holds in
    let few = may.few_bytes in
    let less : contender_slot_count (length c.bytes) ≤ contender_slot_count b.foreign_bytes =
    omega arith in
    let t = less_times (contender_slot_count (length c.bytes))
    (contender_slot_count b.foreign_bytes) (3 + b.foreign_stretch) less in
    omega (arith, f, t)

seen_over : KnownOfLines → (b : Board) (i : Instr) (msg : Asked) (m : Machine) (a : Answered)
    (e : Entry) (next : Machine) (w : Option Contender) → IsBoard b → IsInstr i
    → Belongs b m.bus → Words m.regs → message_of b i m.regs ≡ Some msg
    → IfSome a.contender (MayContend b) → winner msg a ≡ w → Over b i msg m a e next w
    → SeenOver b msg m a e next w
seen_over known b i msg m a e next None is ok belongs words asked may wins o =
    let sent =
    asked_on_wire known.on_wire known.lengths b i m msg a is ok belongs words asked o.fits in
    let one = known.reads msg a (alert_level m.bus) sent in
    let wire = known.on_wire b m.bus msg a is belongs o.fits.form in
    let takes = takes_own_form b i m.regs msg ok asked in
    let no_block = no_block_read msg takes in
    let shown = known.does msg a (alert_level m.bus) sent in
    record {
      carries = record {
        asked = sent;
        samples = o.samples;
        reads = one;
        does = shown;
        no_block = no_block;
      };
      does = message_does b m.bus msg a (alert_level m.bus) e is o.before o.samples takes
          sent.can_be_sent.has_good_data.has_length no_block
          (out_of msg a (alert_level m.bus) one) shown;
      entry = rw o.samples one.entry;
      words =
          rw o.regs (message_words i (outcome_alone (Some msg) a) m words
          (λ v done. outcome_small msg a v wire done));
    }
seen_over known b i msg m a e next (Some c) is ok belongs words asked may wins o =
    let allowed = may_contend b msg a c may wins in
    let r = known.foreign c (alert_level m.bus) (known.start b c is allowed) in
    let few : m.bus.lost < b.contentions = o.fits.few in
    let only : IsOnlyFrame (events_of e.samples) (contender_frame c) = rw o.samples r.is_only in
    record {
      carries = record {
        may = allowed;
        may_lose = omega (arith, few);
        samples = o.samples;
        is_only = only;
        few = rw o.samples (foreign_few b c (alert_level m.bus) allowed r);
      };
      does = foreign_does b m.bus c a e is allowed o.before only r.to;
      entry = rw o.samples r.entry;
      words = rw o.regs words;
    }

by_message : KnownOfLines → (b : Board) (i : Instr) (o : Option Asked)
    (m : Machine) (a : Answered) (e : Entry) (next : Machine)
    → IsBoard b → IsInstr i → Belongs b m.bus → Words m.regs → message_of b i m.regs ≡ o
    → IsStepOf b i o m a e next → Seen b i o m a e next
by_message known b i None m a e next is ok belongs words asked step =
    let none = known.idle (alert_level m.bus) (suc (idle_ticks i)) in
    let samples = same_samples e _ step.entry_is in
    record {
      carries = rw samples none.none;
      does = silence_does b m.bus a e (same_before e _ step.entry_is) (rw samples none.only);
      entry = rw samples (none.entry (omega arith));
      words = rw (same_regs next _ step.next_is) (silent_words i m ok words);
    }
by_message known b i (Some msg) m a e next is ok belongs words asked step =
    let v = seen_over known b i msg m a e next (winner msg a) is ok belongs words asked
    step.fits.0 refl (over_of b i msg m a e next step) in
    record { carries = v.carries; does = v.does; entry = v.entry; words = v.words }

pub steps_are_seen : KnownOfLines → StepsBelong → StepsAreSeen
steps_are_seen known stays b p m next a e is program ready step =
    let i = step.instr in
    let ok = is_instr p m.place i program step.here in
    let words = recursion_from_All (λ word. word < 65536) m.regs ready.words in
    let seen = by_message known b i
    (message_of b i m.regs) m a e next is ok ready.machine.bus words refl step.step in
    record {
      instr = i;
      here = step.here;
      carries = seen.carries;
      does = seen.does;
      entry = seen.entry;
      ready = record {
        machine = record {
          place =
              stepped_place b p i
              (message_of b i m.regs) m a e next program step.here refl step.step;
          bus =
              stays b m.bus next.bus
              (message_of b i m.regs) a ready.machine.bus step.step.fits step.step.bus;
        };
        words = All-from_recursion (λ word. word < 65536) next.regs seen.words;
      };
    }

pub starts_are_ready : StartsBelong → StartsAreReady
starts_are_ready starts b p s is program start = record {
  machine = record { place = program.some; bus = starts b s is start };
  words = All-from_recursion (λ word. word < 65536) (replicate 8 0) (
    omega arith,
    (
      omega arith,
      (omega arith, (omega arith, (omega arith, (omega arith, (omega arith, (omega arith, tt)))))),
    ),
  );
}
