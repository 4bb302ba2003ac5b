-- The samples of a message and an answer have one frame.
use Rattle.std.proofs.Common.{◌≡◌, ℕ, ◌+◌, ◌-◌, ◌*◌, ◌≤◌, ◌⊎◌, inl, inr, Bool, Option}
use Rattle.std.proofs.Common.{Some, None, List, length, All, refl, sym, ap, subst}
use Rattle.std.proofs.Common.{arith}
use Rattle.bit_bus.specs.declared.plan.Slot.{Slot}
use Rattle.bit_bus.specs.Levels.{levels, first_cut}
use Rattle.bit_bus.specs.PlannedSlots.{HoldsAreKept}
use Rattle.bit_bus.specs.Word.{ReadsBack, LeavesBusFree, CutIsSeen}
use Rattle.bit_bus.specs.SampleCounts.{LevelsAreFew}
use Rattle.smbus.specs.Asked.{Asked}
use Rattle.smbus.specs.Answered.{Answered}
use Rattle.smbus.specs.Shown.{Shown}
use Rattle.smbus.specs.Slots.{slots_of, plan_of}
use Rattle.smbus.specs.SlotCounts.{most_slots}
use Rattle.smbus.specs.Whole.{IsWhole, IsBrokenOff}
use Rattle.smbus.specs.OneFrame.{IsOnlyFrame, HasOneFrame}
use Rattle.smbus.specs.MessageFrame.{MessagesHaveOneFrame}
use Rattle.smbus.specs.Slots.{samples_of}
use Rattle.simulator.specs.EntryLaws.{EntriesReadBack}

-- whole or broken off

abbrev Shape : Asked → Answered → Bool → Shown → Type 0
Shape m a alert f =
    IsWhole m a.value a.bytes f ⊎ IsBrokenOff (samples_of alert m a) m a.value a.bytes f

shape_of : (m : Asked) (a : Answered) (alert : Bool) (one : HasOneFrame m a) (refuse cut : Option ℕ)
    → a.refuse ≡ refuse → first_cut (plan_of m a) ≡ cut → Shape m a alert one.frame
shape_of m a alert one None None r c = inl (one.done r c)
shape_of m a alert one (Some n) cut r c = inr (one.refused n r alert)
shape_of m a alert one None (Some slot) r c = inr (one.cut slot c alert)

-- how many samples there are

pub less_times : (n k j : ℕ) → n ≤ k → n * j ≤ k * j
less_times n k j le =
    let whole : k ≡ n + (k - n) = omega arith in
    let s : k * j ≡ (n + (k - n)) * j = ap (λ x. x * j) whole in
    omega (arith, s)

few : LevelsAreFew → HoldsAreKept → (m : Asked) (a : Answered) (alert : Bool) (most longest : ℕ)
    → length (plan_of m a) ≤ most
    → All (λ hold. hold ≤ longest) a.holds
    → length (samples_of alert m a) ≤ 2 + most * (3 + longest)
few levels_are_few short m a alert most longest le h =
    let plan : List (Slot × ℕ) = plan_of m a in
    let f = levels_are_few alert longest plan (short longest (slots_of m a) a.holds h) in
    let t = less_times (length plan) most (3 + longest) le in
    omega arith

-- the frame of an entry, and what its samples are
pub reads_one : MessagesHaveOneFrame → ReadsBack → LeavesBusFree → CutIsSeen → LevelsAreFew
    → HoldsAreKept → EntriesReadBack
reads_one shown reads_back leaves_bus_free cut_is_seen levels_are_few short m a alert asked =
    let plan : List (Slot × ℕ) = plan_of m a in
    let shows = shown m a asked in
    let one : HasOneFrame m a = shows.one in
    record {
      shows = shows;
      is_only =
          subst (λ es. IsOnlyFrame es one.frame) (sym (reads_back alert alert plan)) one.is_only;
      timeout = cut_is_seen alert alert plan;
      shape = shape_of m a alert one a.refuse (first_cut plan) refl refl;
      done = one.done;
      cut_in_end = λ r c. (one.cut_in_end r c, one.cut _ c alert);
      few = λ longest h.
          few levels_are_few short m a alert
          (most_slots m.form (length m.out) (length a.bytes)) longest
          shows.slots h;
      some = omega arith;
      entry = record {
        alert = alert;
        later = levels alert plan;
        begins = refl;
        high = leaves_bus_free alert plan one.plan;
      };
    }
