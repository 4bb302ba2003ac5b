use Rattle.table_check.proofs.SmallTables.Orders.{in_order, need_is_withdrawn}
use Rattle.table_check.proofs.SmallTables.Voltages.{within_the_limit, without_a_tick}
use Rattle.table_check.proofs.SmallTables.Voltages.{over_the_limit}
use Rattle.table_check.proofs.law.small_tables_are_judged.Goals as goal

pub returns-clause-within : goal.returns-clause-within
returns-clause-within c = within_the_limit

pub returns-clause-tight : goal.returns-clause-tight
returns-clause-tight c = without_a_tick

pub returns-clause-over : goal.returns-clause-over
returns-clause-over c = over_the_limit

pub returns-clause-ordered : goal.returns-clause-ordered
returns-clause-ordered c = in_order

pub returns-clause-judged : goal.returns-clause-judged
returns-clause-judged c = need_is_withdrawn
