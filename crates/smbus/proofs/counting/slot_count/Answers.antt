use Rattle.std.proofs.Common.{rules}
use Rattle.smbus.proofs.CountedSlots.{slots_counted}
use Rattle.smbus.proofs.counting.slot_count.Goals as goal

pub returns : goal.returns
returns c = rw (slots_counted c.args.message.now c.args.answer.now) (search rules)
