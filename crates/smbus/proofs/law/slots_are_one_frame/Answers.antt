use Rattle.smbus.proofs.OneFrameOfMessage.{slots_are_one_frame, frames_are_unique}
use Rattle.smbus.proofs.law.slots_are_one_frame.Goals as goal

pub returns-clause-one : goal.returns-clause-one
returns-clause-one c =
    slots_are_one_frame c.reads_back.ensures.cut c.plans_keep_slots.ensures.slots
    c.plans_keep_slots.ensures.holds

pub returns-clause-unique : goal.returns-clause-unique
returns-clause-unique c = frames_are_unique
