-- The frame of a step is allowed where its message is.
use Rattle.std.proofs.Common.{◌≡◌, ◌≤◌, ◌⊎◌, inl, inr, Option, Some, None, List, []}
use Rattle.std.proofs.Common.{IfSome}
use Rattle.std.proofs.Common.{◌∷◌, length, sym, subst, arith}
use Rattle.wires.specs.declared.lines.Sample.{Sample}
use Rattle.wires.specs.Events.{events_of}
use Rattle.smbus.specs.Asked.{Asked}
use Rattle.smbus.specs.Answered.{Answered}
use Rattle.smbus.specs.Contenders.{Contender, contender_frame}
use Rattle.smbus.specs.Winners.{winner, unless_won}
use Rattle.smbus.specs.Shown.{Shown}
use Rattle.smbus.specs.Frames.{AreFrames}
use Rattle.smbus.specs.Whole.{IsWhole, IsBrokenOff}
use Rattle.smbus.specs.OneFrame.{FramesAreUnique}
use Rattle.board.specs.Boards.{Board}
use Rattle.targets.specs.States.{BusState}
use Rattle.smbus.specs.Slots.{samples_of}
use Rattle.simulator.specs.Machines.{Entry}
use Rattle.simulator.specs.Steps.{alert_level}
use Rattle.simulator.specs.Allowed.{IsAllowedBy}
use Rattle.simulator.specs.StepLaws.{CarriesMessage, CarriesForeign, CarriesOver}
use Rattle.simulator.specs.SafeLaws.{HasAllowedFrame, AllowedFramesAreSeen}

no_frames : (f : Shown) (fs : List Shown) → f ∷ fs ≡ [] → ⊥
no_frames f fs e = cc

first_same : (f g : Shown) (fs gs : List Shown) → f ∷ fs ≡ g ∷ gs → f ≡ g
first_same f g fs gs e = cc

at_most_one : (fs gs : List Shown) → length gs ≤ 1 → fs ≡ gs → length fs ≤ 1
at_most_one fs gs few same = rw same few

message_allowed : (b : Board) (s : BusState) (m : Asked) (a : Answered) (e : Entry) → e.before ≡ s
    → CarriesMessage s m a e → IsAllowedBy b s m a → HasAllowedFrame b e
message_allowed b s m a e before carries ok =
    let r = carries.reads in
    let f = r.shows.one.frame in
    let here : e.samples ≡ samples_of (alert_level s) m a = carries.samples in
    let only : (fs : List Shown) → AreFrames (events_of e.samples) fs
    → fs ≡ f ∷ [] = λ fs read. r.is_only.only fs
    (let P : List Sample → Type 0 = λ x. AreFrames (events_of x) fs in subst P here read) in
    let P : List Sample → Type 0 = λ x. IsWhole m a.value a.bytes f
    ⊎ IsBrokenOff x m a.value a.bytes f in
    let shape : P e.samples = subst P (sym here) r.shape in
    record {
      read = inr (
        f,
        let P : List Sample → Type 0 = λ x. AreFrames (events_of x) (f ∷ []) in
            subst P (sym here) r.is_only.is,
      );
      one = λ fs read. at_most_one fs (f ∷ []) (omega arith) (only fs read);
      allowed = λ g has.
          let same : g ≡ f = first_same g f [] [] (only (g ∷ []) has) in
          inl (record {
            message = m;
            answer = a;
            wire = carries.asked.wire;
            has_length = carries.asked.can_be_sent.has_good_data.has_length;
            has_good_block = carries.asked.can_be_sent.has_good_block;
            shown = rw same shape;
            allowed = rw before ok;
          });
    }

foreign_allowed : (b : Board) (s : BusState) (c : Contender) (e : Entry)
    → CarriesForeign b s c e → HasAllowedFrame b e
foreign_allowed b s c e carries =
    let f = contender_frame c in
    let only = carries.is_only.only in
    record {
      read = inr (f, carries.is_only.is);
      one = λ fs read. at_most_one fs (f ∷ []) (omega arith) (only fs read);
      allowed = λ g has.
          inr (record {
            contender = c;
            may = carries.may;
            may_lose = carries.may_lose;
            alert = alert_level s;
            sampled = carries.samples;
            whole = first_same g f [] [] (only (g ∷ []) has);
          });
    }

allowed_over : (b : Board) (s : BusState) (m : Asked) (a : Answered) (e : Entry)
    (w : Option Contender) → e.before ≡ s → CarriesOver w b s m a e
    → IfSome (unless_won w m) (λ m. IsAllowedBy b s m a) → HasAllowedFrame b e
allowed_over b s m a e None before carries ok = message_allowed b s m a e before carries ok
allowed_over b s m a e (Some c) before carries ok = foreign_allowed b s c e carries

pub allowed_frames_are_seen : FramesAreUnique → AllowedFramesAreSeen
allowed_frames_are_seen unique b s None a e before carries ok =
    let only : (fs : List Shown) → AreFrames (events_of e.samples) fs
    → fs ≡ [] = λ fs read. unique (events_of e.samples) [] fs carries read in
    record {
      read = inl carries;
      one = λ fs read. at_most_one fs [] (omega arith) (only fs read);
      allowed = λ f has. absurd (no_frames f [] (only (f ∷ []) has));
    }
allowed_frames_are_seen unique b s (Some m) a e before carries ok =
    allowed_over b s m a e (winner m a) before carries ok
