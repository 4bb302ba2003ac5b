use Rattle.bit_bus.proofs.Plans.{slots_in-planned, holds_are_kept}
use Rattle.bit_bus.proofs.law.plans_keep_slots.Goals as goal

pub returns-clause-slots : goal.returns-clause-slots
returns-clause-slots c = slots_in-planned

pub returns-clause-holds : goal.returns-clause-holds
returns-clause-holds c = holds_are_kept
