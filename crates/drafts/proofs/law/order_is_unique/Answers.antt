use Rattle.drafts.proofs.SameOrders.{none_twice, awaited_before, same_orders}
use Rattle.drafts.proofs.law.order_is_unique.Goals as goal

pub returns-clause-once : goal.returns-clause-once
returns-clause-once c = none_twice

pub returns-clause-awaited : goal.returns-clause-awaited
returns-clause-awaited c = awaited_before

pub returns-clause-unique : goal.returns-clause-unique
returns-clause-unique c = same_orders
