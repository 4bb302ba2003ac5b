use Rattle.table_check.proofs.ByPlace.{by_place, tells_duty, tells_duty_or_ticks}
use Rattle.table_check.proofs.law.tables_are_judged_by_place.Goals as goal

pub returns-clause-whole : goal.returns-clause-whole
returns-clause-whole c = by_place

pub returns-clause-duties : goal.returns-clause-duties
returns-clause-duties c = tells_duty

pub returns-clause-ticks : goal.returns-clause-ticks
returns-clause-ticks c = tells_duty_or_ticks
