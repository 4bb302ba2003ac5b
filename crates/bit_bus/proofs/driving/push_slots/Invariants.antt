use Rattle.std.proofs.Common.{◌≡◌, ◌<◌, ◌*◌, ◌-◌, ◌++◌, ℕ, drop, length}
use Rattle.std.specs.List.{position_from}
use Rattle.bit_bus.specs.declared.plan.Slot.{Slot}
use Rattle.bit_bus.specs.Levels.{is_cut, slot_levels, first_cut}
use Rattle.bit_bus.specs.Planned.{planned}
use Rattle.bit_bus.proofs.driving.push_slots.Given as goal

abbrev pub invariant-loop-place : goal.invariant-loop-place
invariant-loop-place l = record {
  samples :
      l.levels.samples ++ slot_levels l.alert (drop l.place (planned l.slots l.holds))
      ≡ l.fn.levels.samples ++ slot_levels l.alert (planned l.slots l.holds);
  cut :
      position_from (λ (s : Slot × ℕ). is_cut s.1) l.place (drop l.place (planned l.slots l.holds))
      ≡ first_cut (planned l.slots l.holds);
  room : 3 * (length l.slots - l.place) < l.levels.room;
}
