use Rattle.std.proofs.Common.{arith}
use Rattle.table_check.proofs.Gains.{product_small, products_are}
use Rattle.table_check.proofs.checker.paying.times.Goals as goal

pub returns-clause-exact : goal.returns-clause-exact
returns-clause-exact c = products_are c.from.ensures c.from-2.ensures

pub returns-clause-small : goal.returns-clause-small
returns-clause-small c = product_small c.from.result c.from-2.result (omega arith) (omega arith)
