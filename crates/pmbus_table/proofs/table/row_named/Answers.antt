use Rattle.std.proofs.Common.{refl}
use Rattle.pmbus_table.specs.Table.{table}
use Rattle.pmbus_table.proofs.TableRows.{name_found}
use Rattle.pmbus_table.proofs.table.row_named.Goals as goal

pub returns : goal.returns
unfolding table
returns c = name_found c.args.name.now _ _ c.find_name.ensures refl
