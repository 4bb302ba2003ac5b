use Rattle.std.proofs.Common.{refl}
use Rattle.pmbus_table.specs.Table.{table}
use Rattle.pmbus_table.proofs.TableRows.{code_found}
use Rattle.pmbus_table.proofs.table.row_of.Goals as goal

pub returns : goal.returns
unfolding table
returns c = code_found c.args.code _ _ c.find_code.ensures refl
