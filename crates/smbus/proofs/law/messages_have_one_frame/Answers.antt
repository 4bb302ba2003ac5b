use Rattle.smbus.proofs.Examples.{some_are_asked}
use Rattle.smbus.proofs.MessageFrames.{messages_have_one_frame}
use Rattle.smbus.proofs.law.messages_have_one_frame.Goals as goal

pub returns-clause-one : goal.returns-clause-one
returns-clause-one c =
    messages_have_one_frame c.plans_keep_slots.ensures.slots c.slots_are_one_frame.ensures.one

pub returns-clause-case : goal.returns-clause-case
returns-clause-case c = some_are_asked
