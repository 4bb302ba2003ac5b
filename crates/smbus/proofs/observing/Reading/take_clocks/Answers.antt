use Rattle.smbus.proofs.WholeBytes.{leads_none}
use Rattle.smbus.proofs.observing.Reading.take_clocks.Goals.{in_default-via-in-Some+else-is_empty}
use Rattle.smbus.proofs.observing.Reading.take_clocks.Goals.{in_default-via-in_default}
use Rattle.smbus.proofs.observing.Reading.take_clocks.Goals as goal

pub returns-in_default-clause-leads : goal.returns-in_default-clause-leads
returns-in_default-clause-leads c = elim c.in_default.branch [
  | in_default-via-in-Some+else-is_empty w ↦ rw (w.self-is, w.in-Some.is) (leads_none _ _)
  | in_default-via-in_default w ↦ rw w.self-is (leads_none _ _)
]
