use Rattle.simulator.proofs.Doing.{do_as_asked}
use Rattle.simulator.proofs.Joining.{reads_none, reads_joined}
use Rattle.simulator.proofs.OneEntry.{reads_one}
use Rattle.simulator.proofs.OneForeign.{reads_foreign}
use Rattle.simulator.proofs.law.entries_read_back.Goals as goal

pub returns-clause-one : goal.returns-clause-one
returns-clause-one c =
    reads_one c.messages_have_one_frame.ensures.one c.reads_back.ensures.word
    c.reads_back.ensures.free c.reads_back.ensures.cut c.reads_back.ensures.few
    c.plans_keep_slots.ensures.holds

pub returns-clause-does : goal.returns-clause-does
returns-clause-does c = do_as_asked (returns-clause-one c)

pub returns-clause-none : goal.returns-clause-none
returns-clause-none c = reads_none

pub returns-clause-foreign : goal.returns-clause-foreign
returns-clause-foreign c =
    reads_foreign c.contenders_have_one_frame.ensures.one c.reads_back.ensures.word
    c.reads_back.ensures.free c.reads_back.ensures.few c.plans_keep_slots.ensures.holds

pub returns-clause-joined : goal.returns-clause-joined
returns-clause-joined c =
    reads_joined c.reads_back.ensures.joined c.slots_are_one_frame.ensures.unique
