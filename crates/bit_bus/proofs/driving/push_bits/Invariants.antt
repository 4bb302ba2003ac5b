use Rattle.std.proofs.Common.{◌≡◌, ◌<◌, ◌≤◌, ◌+◌, ◌*◌, ◌++◌, [], length}
use Rattle.wires.specs.Runs.{most_samples}
use Rattle.bit_bus.specs.Levels.{slot_levels}
use Rattle.bit_bus.specs.Planned.{planned}
use Rattle.bit_bus.proofs.driving.push_bits.Given as goal

abbrev pub invariant-loop-rest : goal.invariant-loop-rest
invariant-loop-rest l = record {
  samples :
      l.levels.samples ++ slot_levels l.alert (planned l.rest [])
      ≡ l.fn.levels.samples ++ slot_levels l.alert (planned l.slots []);
  few : length l.levels.samples + 3 * length l.rest ≤ most_samples;
  room : 3 * length l.rest < l.levels.room;
  fewer : length l.rest ≤ length l.slots;
}

abbrev pub decreases-loop-rest : goal.decreases-loop-rest
decreases-loop-rest l = length l.rest
