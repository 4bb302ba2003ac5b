-- The samples of another controller have its one frame.
use Rattle.std.proofs.Common.{◌≡◌, ℕ, ◌+◌, ◌*◌, ◌≤◌, Bool, true, false, Option, Some, None, List}
use Rattle.std.proofs.Common.{if◌then◌else◌, length, nat_lt, All, refl, sym, ap, subst, arith}
use Rattle.bit_bus.specs.declared.plan.Slot.{Slot}
use Rattle.bit_bus.specs.Levels.{levels}
use Rattle.bit_bus.specs.PlannedSlots.{HoldsAreKept}
use Rattle.bit_bus.specs.Word.{ReadsBack, LeavesBusFree}
use Rattle.bit_bus.specs.SampleCounts.{LevelsAreFew}
use Rattle.smbus.specs.Asked.{Asked}
use Rattle.smbus.specs.Answered.{Answered}
use Rattle.smbus.specs.Contenders.{Contender, contender_slots, contender_plan, contender_samples}
use Rattle.smbus.specs.Contenders.{contender_frame, contender_slot_count}
use Rattle.smbus.specs.ContenderLaws.{ContendersHaveOneFrame}
use Rattle.smbus.specs.Winners.{winner_over, winner}
use Rattle.smbus.specs.OneFrame.{IsOnlyFrame}
use Rattle.simulator.specs.EntryLaws.{ForeignReadsBack}

few : LevelsAreFew → HoldsAreKept → (c : Contender) (alert : Bool) (slots longest : ℕ)
    → length (contender_plan c) ≡ slots → All (λ hold. hold ≤ longest) c.holds
    → length (contender_samples alert c) ≤ 2 + slots * (3 + longest)
few levels_are_few short c alert slots longest count h =
    let f = levels_are_few alert longest (contender_plan c)
    (short longest (contender_slots c) c.holds h) in
    let same : length (contender_plan c) * (3 + longest) ≡ slots * (3 + longest) =
    ap (λ (n : ℕ). n * (3 + longest)) count in
    omega arith

pub reads_foreign : ContendersHaveOneFrame → ReadsBack → LeavesBusFree → LevelsAreFew
    → HoldsAreKept → ForeignReadsBack
reads_foreign one reads_back leaves_bus_free levels_are_few short c alert can =
    let plan : List (Slot × ℕ) = contender_plan c in
    let driven = one c can in
    record {
      is_only =
          subst (λ es. IsOnlyFrame es (contender_frame c)) (sym (reads_back alert alert plan))
          driven.is_only;
      to = driven.to;
      few = λ longest h.
          few levels_are_few short c alert (contender_slot_count (length c.bytes)) longest
          driven.slots h;
      entry = record {
        alert = alert;
        later = levels alert plan;
        begins = refl;
        high = leaves_bus_free alert plan driven.plan;
      };
    }

-- the winner over a message is the controller that starts beside it
winner_over_is : (address : ℕ) (o : Option Contender) (c : Contender)
    → winner_over address o ≡ Some c → o ≡ Some c
winner_over_is address None c e = cc
winner_over_is address (Some d) c e = by (nat_lt d.address address) e
  where
    by : (lower : Bool) → (if lower then Some d else None) ≡ Some c → Some d ≡ Some c
    by true e = e
    by false e = cc

pub winner_is : (m : Asked) (a : Answered) (c : Contender) → winner m a ≡ Some c
    → a.contender ≡ Some c
winner_is m a c e = winner_over_is m.address a.contender c e
